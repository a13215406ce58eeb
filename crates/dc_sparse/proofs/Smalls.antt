-- Numbers of nodes, rows and columns fit 32 bits.
use Rattle.std.proofs.Common.{◌≡◌, ℕ, ◌<◌, ◌≤◌, true, refl, List, length, Option, Some, None, sym, arith}
use Rattle.dc_frac.specs.declared.Frac.{Frac}
use Rattle.dc_sparse.specs.declared.web.Node.{Node}
use Rattle.dc_sparse.specs.Lines.{Lines, IsFirst}
use Rattle.dc_sparse.specs.Nodes.{most, IsLink}
use Rattle.dc_sparse.specs.Webs.{IsTop, IsSmall}

pub first_link : (s : Lines) (i k n : ℕ) (o : Option ℕ) → ((a : ℕ) → s.live a ≡ true → a < n) → n ≤ most → IsFirst s i k o → IsLink o
first_link s i k n None inside few f = tt
first_link s i k n (Some b) inside few f = (let l = inside b f.0.live in omega arith)

pub top_link : (xs : List Node) (n : ℕ) (o : Option ℕ) → length xs ≤ most → IsTop xs n o → IsLink o
top_link xs n None few t = tt
top_link xs n (Some b) few t = (let l = t.0.inside in omega arith)

pub small_kept : (n m h g w v : ℕ) → m ≡ n → g ≡ h → v ≡ w → IsSmall n h w → IsSmall m g v
small_kept n m h g w v e f d s = rw (e, f, d) s

pub same_node : (x : Node) (i k : ℕ) (v : Frac) → x.row ≡ i → x.col ≡ k → x.value ≡ v → x ≡ record { row = i; col = k; value = v; right = x.right; down = x.down }
same_node x i k v e f g = rw (sym e, sym f, sym g) refl
