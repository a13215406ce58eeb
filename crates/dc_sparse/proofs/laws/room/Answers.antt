use Rattle.dc_sparse.proofs.Rooms.{has_room}
use Rattle.dc_sparse.proofs.laws.room.Goals as goal

pub returns : goal.returns
returns c = has_room
