-- The rules of the arithmetic, shown at every width; what the machine's numbers are in the words of the definitions: laws that the operations' proofs share.
pub mod Machine
pub mod Signs
pub mod Operands
pub mod Shown
