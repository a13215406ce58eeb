-- What a flag says, and which flag a list has.
use Rattle.std.specs.Prelude.{◌≡◌, Bool, true, false, List, [], ◌∷◌, ◌++◌, length}
use Rattle.std.proofs.Common.{refl, sym, ap, ◌∙◌, suc}
use Rattle.std.proofs.lemmas.Bool.{false≢true}
use Rattle.dc_affine.specs.declared.atom.Atom.{Atom}
use Rattle.dc_points.specs.Points.{IsDead}
use Rattle.dc_points.specs.Flags.{IsFlag, AreFlags}

-- a list whose flag is not set is dead
pub flag-false : (live : Bool) (hyps : List Atom) → IsFlag live hyps → live ≡ false → IsDead hyps
flag-false live hyps h e p m = false≢true (sym e ∙ h.1 (λ d. d p m))

pub dead_flag : (hyps : List Atom) → IsDead hyps → IsFlag false hyps
dead_flag hyps d = (λ e. absurd (false≢true e), λ n. absurd (n d))

pub live_flag : (hyps : List Atom) → ¬ IsDead hyps → IsFlag true hyps
live_flag hyps n = (λ e. n, λ m. refl)

-- ---- a flag for each list
pub flags_many : (bs : List Bool) (hs : List (List Atom)) → AreFlags bs hs → length bs ≡ length hs
flags_many [] [] f = refl
flags_many [] (h ∷ hs) f = absurd f
flags_many (b ∷ bs) [] f = absurd f
flags_many (b ∷ bs) (h ∷ hs) f = ap suc (flags_many bs hs f.1)

pub flags_push : (bs : List Bool) (hs : List (List Atom)) (b : Bool) (h : List Atom) → AreFlags bs hs → IsFlag b h → AreFlags (bs ++ b ∷ []) (hs ++ h ∷ [])
flags_push [] [] b h f g = (g, tt)
flags_push [] (k ∷ hs) b h f g = absurd f
flags_push (c ∷ bs) [] b h f g = absurd f
flags_push (c ∷ bs) (k ∷ hs) b h f g = (f.0, flags_push bs hs b h f.1 g)
