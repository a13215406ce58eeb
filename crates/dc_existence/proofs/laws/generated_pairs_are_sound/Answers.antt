use Rattle.dc_existence.proofs.Sound.{samples_are_sound}
use Rattle.dc_existence.proofs.laws.generated_pairs_are_sound.Goals as goal

pub returns : goal.returns
returns c = samples_are_sound
