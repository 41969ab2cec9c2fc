-- The answer stands within what is lent for it.
use Rattle.job.proofs.Stages.{count_within, count_counted}
use Rattle.ivlrun.proofs.main.Goals as goal

pub slice_bounds-out-end : goal.slice_bounds-out-end
slice_bounds-out-end c = rw c.unwrap_or-m.ensures (count_within _ _ _ _ c.answer.ensures)

pub slice_bounds-write_all-end : goal.slice_bounds-write_all-end
slice_bounds-write_all-end c = rw c.unwrap_or-m.ensures (count_counted _ _ _ _ c.answer.ensures)
