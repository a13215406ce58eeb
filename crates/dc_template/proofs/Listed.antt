-- The list of monomials is the one of its law, and there is one such list.
use Rattle.std.specs.Prelude.{ℕ, suc, List}
use Rattle.std.proofs.Common.{arith}
use Rattle.dc_math.specs.Members.{Among, each-weaker, each_among}
use Rattle.dc_math.specs.OrderedLists.{same_members, pairs_ordered, ordered_pairs}
use Rattle.dc_poly.specs.Terms.{Exponents, Before}
use Rattle.dc_poly.specs.Monomials.{IsWithin, monomials_of}
use Rattle.dc_poly.proofs.Graded.{strict}
use Rattle.dc_poly.proofs.Listed.{IsBelow, below-only, list_ordered, list_every}
use Rattle.dc_template.specs.Monomials.{AreMonomials, AreFixed}

pub are_monomials : (n d : ℕ) → AreMonomials n d (monomials_of n d)
are_monomials n d = record {
  only = each-weaker (IsBelow n (suc d)) (IsWithin n d) (λ m h. record { places = h.places; low = (let l = h.low in omega arith) }) (monomials_of n d) (below-only n (suc d));
  each = list_every n d;
  in_order = pairs_ordered Before (monomials_of n d) (list_ordered n d);
}

pub are_fixed : AreFixed
are_fixed n d ms ks h k = same_members Before strict ms ks (ordered_pairs Before ms h.in_order) (ordered_pairs Before ks k.in_order) (within ms ks h k) (within ks ms k h)
  where
    within : (ms ks : List Exponents) → AreMonomials n d ms → AreMonomials n d ks → (m : Exponents) → Among m ms → Among m ks
    within ms ks h k m i = k.each m (each_among (IsWithin n d) h.only i)
