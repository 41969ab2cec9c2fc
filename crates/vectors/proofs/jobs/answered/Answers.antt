-- The answer stands within what is lent for it.
use Rattle.job.proofs.Stages.{count_within, count_counted}
use Rattle.vectors.proofs.jobs.answered.Goals as goal

pub slice_bounds-out-end : goal.slice_bounds-out-end
slice_bounds-out-end g c = rw c.unwrap_or-bytes.ensures (count_within _ _ _ _ c.answer.ensures)

pub slice_bounds-write_all-end : goal.slice_bounds-write_all-end
slice_bounds-write_all-end g c = rw c.unwrap_or-bytes.ensures (count_counted _ _ _ _ c.answer.ensures)
