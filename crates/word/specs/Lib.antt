-- What the arithmetic of cells is, what the code's outcomes stand for, and the rules that hold at every width.
pub mod Word
pub mod Said
pub mod Laws
pub mod TwosComplement
pub mod Division
