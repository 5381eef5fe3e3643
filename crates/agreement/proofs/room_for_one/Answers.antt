use Rattle.std.proofs.Common.{refl}
use Rattle.agreement.proofs.Deciding.{winners_decide}
use Rattle.agreement.proofs.Telling.{cell_fits}
use Rattle.agreement.proofs.room_for_one.Goals as goal

pub returns : goal.returns
returns c = record { most = refl; room = cell_fits; decide = winners_decide }
