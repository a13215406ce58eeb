-- No text of a generated pair is wrong.
use Rattle.std.proofs.Common.{◌≡◌}
use Rattle.dc_session.specs.declared.fault.PastAt.TheVariants.{Pivot, Fold}
use Rattle.dc_session.specs.declared.fault.AnalyseFault.{AnalyseFault}
use Rattle.dc_session.specs.declared.fault.AnalyseFault.TheVariants as analyse
use Rattle.dc_answers.specs.declared.refusal.Text.{Text}
use Rattle.dc_answers.specs.declared.refusal.Wrong.{Wrong}
use Rattle.dc_answers.specs.declared.refusal.Refusal.TheVariants as r
use Rattle.dc_answers.specs.Ends.{Output, End, Printed, Refused, misread, understood, stops, shows, of_analysis}
use Rattle.dc_existence.specs.Laws.{SamplesAreSound}
use Rattle.dc_existence.proofs.Samples.{never_wrong}

not_printed : (at : Text) (w : Wrong) (o : Output) → ◌≡◌ {A = End} (Refused (r.Source at w)) (Printed o) → ⊥
not_printed at w o e = cc

not_stopped : (at : Text) (w : Wrong) (f : AnalyseFault) → ◌≡◌ {A = End} (Refused (r.Source at w)) (Refused (of_analysis f)) → ⊥
not_stopped at w (analyse.TooLarge side what n) e = cc
not_stopped at w (analyse.Past128 (Pivot q n)) e = cc
not_stopped at w (analyse.Past128 (Fold clause index)) e = cc
not_stopped at w (analyse.Budget q) e = cc
not_stopped at w analyse.NoMemory e = cc

pub samples_are_sound : SamplesAreSound
samples_are_sound seed count at w l (misread by v t e) = never_wrong seed count l by v t
samples_are_sound seed count at w l (understood p q cases s (stops f h e)) = not_stopped at w f e
samples_are_sound seed count at w l (understood p q cases s (shows left c t e)) = not_printed at w _ e
