-- What the C struct of a verdict says.
use Rattle.std.specs.Prelude.{◌<◌, ◌^◌}
use Rattle.image.specs.Judge.{Said, say}
use Rattle.fishdavit.specs.declared.FishdavitVerdict.{FishdavitVerdict}

abbrev pub plain : FishdavitVerdict → Said
plain r = say r.number r.line

-- the line or count fits the struct's field
abbrev pub Small : Said → Type 0
Small s = s.line < 2 ^ 32
