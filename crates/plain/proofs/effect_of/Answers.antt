use native.Mathlib.Omega.{arith}
use mathlib.Core.Path.{refl, ap}
use Rattle.word.specs.Word.{value}
use Rattle.word.specs.Said.{said}
use Rattle.frame.specs.Ops.{meaning_of}
use Rattle.plain.proofs.Arms.{effect_laws, is_made, is_value, is_one, is_other_lem}
use borrow.Author.Rules.{rules}
use Rattle.plain.proofs.effect_of.Goals as goal

pub returns-in-1 : goal.returns-in-1
returns-in-1 c = search (effect_laws, rules)

pub returns-in-2 : goal.returns-in-2
unfolding meaning_of
returns-in-2 c = is_one _ _ _ (search rules) 0x02 c.in-2.is refl _ refl

pub returns-in-16 : goal.returns-in-16
unfolding meaning_of
returns-in-16 c = is_value _ _ _ _ (search rules) (search rules) 0x10 c.in-16.is refl _ (ap value c.add_u.ensures)

pub returns-in-17 : goal.returns-in-17
unfolding meaning_of
returns-in-17 c = is_value _ _ _ _ (search rules) (search rules) 0x11 c.in-17.is refl _ (ap value c.sub_u.ensures)

pub returns-in-18 : goal.returns-in-18
unfolding meaning_of
returns-in-18 c = is_value _ _ _ _ (search rules) (search rules) 0x12 c.in-18.is refl _ (ap value c.mul_u.ensures)

pub returns-in-19 : goal.returns-in-19
unfolding meaning_of
returns-in-19 c = is_made _ _ _ _ (search rules) (search rules) 0x13 c.in-19.is refl _ (said _) c.quot_u.ensures c.put.ensures

pub returns-in-20 : goal.returns-in-20
unfolding meaning_of
returns-in-20 c = is_made _ _ _ _ (search rules) (search rules) 0x14 c.in-20.is refl _ (said _) c.rem_u.ensures c.put-in-20.ensures

pub returns-in-24 : goal.returns-in-24
unfolding meaning_of
returns-in-24 c = is_made _ _ _ _ (search rules) (search rules) 0x18 c.in-24.is refl _ _ refl c.sum.ensures

pub returns-in-25 : goal.returns-in-25
unfolding meaning_of
returns-in-25 c = is_made _ _ _ _ (search rules) (search rules) 0x19 c.in-25.is refl _ _ refl c.difference.ensures

pub returns-in-26 : goal.returns-in-26
unfolding meaning_of
returns-in-26 c = is_made _ _ _ _ (search rules) (search rules) 0x1a c.in-26.is refl _ _ refl c.product.ensures

pub returns-in-27 : goal.returns-in-27
unfolding meaning_of
returns-in-27 c = is_made _ _ _ _ (search rules) (search rules) 0x1b c.in-27.is refl _ (said _) c.quot_s.ensures c.put-in-27.ensures

pub returns-in-28 : goal.returns-in-28
unfolding meaning_of
returns-in-28 c = is_made _ _ _ _ (search rules) (search rules) 0x1c c.in-28.is refl _ (said _) c.rem_s.ensures c.put-in-28.ensures

pub returns-in-32 : goal.returns-in-32
unfolding meaning_of
returns-in-32 c = is_value _ _ _ _ (search rules) (search rules) 0x20 c.in-32.is refl _ (ap value c.and_b.ensures)

pub returns-in-33 : goal.returns-in-33
unfolding meaning_of
returns-in-33 c = is_value _ _ _ _ (search rules) (search rules) 0x21 c.in-33.is refl _ (ap value c.or_b.ensures)

pub returns-in-34 : goal.returns-in-34
unfolding meaning_of
returns-in-34 c = is_one _ _ _ (search rules) 0x22 c.in-34.is refl _ (ap value c.not_b.ensures)

pub returns-in-40 : goal.returns-in-40
unfolding meaning_of
returns-in-40 c = is_value _ _ _ _ (search rules) (search rules) 0x28 c.in-40.is refl _ (ap value c.equal.ensures)

pub returns-in-41 : goal.returns-in-41
unfolding meaning_of
returns-in-41 c = is_value _ _ _ _ (search rules) (search rules) 0x29 c.in-41.is refl _ (ap value c.differ.ensures)

pub returns-in-42 : goal.returns-in-42
unfolding meaning_of
returns-in-42 c = is_value _ _ _ _ (search rules) (search rules) 0x2a c.in-42.is refl _ (ap value c.lt_u.ensures)

pub returns-in-43 : goal.returns-in-43
unfolding meaning_of
returns-in-43 c = is_value _ _ _ _ (search rules) (search rules) 0x2b c.in-43.is refl _ (ap value c.le_u.ensures)

pub returns-in-44 : goal.returns-in-44
unfolding meaning_of
returns-in-44 c = is_value _ _ _ _ (search rules) (search rules) 0x2c c.in-44.is refl _ (ap value c.lt_s.ensures)

pub returns-in-45 : goal.returns-in-45
unfolding meaning_of
returns-in-45 c = is_value _ _ _ _ (search rules) (search rules) 0x2d c.in-45.is refl _ (ap value c.le_s.ensures)

pub returns-in-46 : goal.returns-in-46
unfolding meaning_of
returns-in-46 c = is_one _ _ _ (search rules) 0x2e c.in-46.is refl _ (ap value c.is_zero.ensures)

pub returns-in-48 : goal.returns-in-48
returns-in-48 c = search (effect_laws, rules)

pub returns-in-49 : goal.returns-in-49
returns-in-49 c = search (effect_laws, rules)

pub returns-in-64 : goal.returns-in-64
returns-in-64 c = search (effect_laws, rules)

pub returns-in-65 : goal.returns-in-65
returns-in-65 c = search (effect_laws, rules)

pub returns-in-80-to-81 : goal.returns-in-80-to-81
returns-in-80-to-81 c = search (effect_laws, rules)

pub returns-in_default : goal.returns-in_default
returns-in_default c = is_other_lem _ _ (omega arith) c.in_default.in_default-own.rest (omega arith)

pub returns-in_default-2 : goal.returns-in_default-2
returns-in_default-2 c = is_other_lem _ _ (omega arith) c.in_default.in_default-own.rest (omega arith)
