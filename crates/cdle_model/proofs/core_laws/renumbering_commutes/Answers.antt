use Rattle.cdle_model.proofs.Shifts.{shift-shift, shift-put, shift-put_above, put-shift, put-put}
use Rattle.cdle_model.proofs.core_laws.renumbering_commutes.Goals as goal

pub returns : goal.returns
returns c = record { shift_shift = shift-shift; shift_put = shift-put; shift_put_above = shift-put_above; put_shift = put-shift; put_put = put-put }
