use Rattle.std.proofs.Common.{◌∙◌, ap, length, unwrap_or}
use Rattle.program.proofs.Lines.{line_is_position}
use Rattle.program.proofs.line_length.Goals as goal

pub returns : goal.returns
returns c = c.unwrap_or.ensures ∙ ap (λ r. unwrap_or r (length c.args.text.now)) c.line_end.ensures ∙ line_is_position _
