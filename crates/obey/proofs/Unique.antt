-- No second answer fits the contract of an instruction that is not plain. Assumes nothing.
use Prim.Native.Nat.{ℕ}
use mathlib.Core.Path.{◌≡◌, refl, sym, ap, ◌∙◌}
use mathlib.Core.List.{List}
use Rattle.std.specs.Prelude.{Result, Ok, Err}
use Rattle.marks.specs.declared.Marks.{Marks}
use Rattle.shows.specs.Shows.{Lists}
use Rattle.ending.specs.declared.Ending.{Ending}
use Rattle.turns.specs.declared.Obeyed.{Obeyed}
use Rattle.turns.specs.declared.Done.{Done}
use Rattle.turns.specs.Code.{Did, did_by}

-- what was done, read back
back : Did → Result Done Ending
back d = by d.came
  where
    by : Result Obeyed Ending → Result Done Ending
    by (Ok o) = Ok (record { came = o; marks = d.kept.marks })
    by (Err k) = Err k

module _ (m : Marks) where
  back_is : (r : Result Done Ending) (l : Lists) (x : List ℕ) → back (did_by r m l x) ≡ r
  unfolding back
  back_is (Ok d) l x = refl
  back_is (Err k) l x = refl

  lists_are : (r : Result Done Ending) (l : Lists) (x : List ℕ) → (did_by r m l x).kept.lists ≡ l
  lists_are (Ok d) l x = refl
  lists_are (Err k) l x = refl

  cells_are : (r : Result Done Ending) (l : Lists) (x : List ℕ) → (did_by r m l x).cells ≡ x
  cells_are (Ok d) l x = refl
  cells_are (Err k) l x = refl

  pub one_done : (o : Did) (r s : Result Done Ending) (l k : Lists) (x y : List ℕ) → did_by r m l x ≡ o → did_by s m k y ≡ o → (r ≡ s) × (l ≡ k) × (x ≡ y)
  one_done o r s l k x y e f =
      let q = e ∙ sym f in
      (sym (back_is r l x) ∙ ap back q ∙ back_is s k y, sym (lists_are r l x) ∙ ap (λ (d : Did). d.kept.lists) q ∙ lists_are s k y, sym (cells_are r l x) ∙ ap (λ (d : Did). d.cells) q ∙ cells_are s k y)
