-- A fold keeps the prices of the locations that are left, and new numbers change nothing but the numbers.
use Rattle.std.specs.Prelude.{◌≡◌, ℕ, ◌-◌, List, map, ℤ, ◌-ℤ◌, ◌+ℤ◌}
use Rattle.std.proofs.Common.{sym, ap, ap₂, ◌∙◌, subst, arith, inl, inr}
use Rattle.std.proofs.lemmas.Int.{ints}
use Rattle.dc_math.specs.Members.{Mapped, mapped_among}
use Rattle.dc_poly.specs.Terms.{value}
use Rattle.dc_poly.specs.Sums.{values, places_of}
use Rattle.dc_poly.specs.Sums as sums
use Rattle.dc_poly.proofs.Values.{value-plus, value-composed}
use Rattle.dc_system.specs.declared.edges.Edge.{Edge}
use Rattle.dc_system.specs.declared.edges.System.{System}
use Rattle.dc_system.specs.Composed.{after, composed}
use Rattle.dc_system.specs.Folded.{Folding, unfolded, fold_least, numbers_below, renumbered, IsFolded}
use Rattle.dc_system.specs.Shapes.{IsWellFormed}
use Rattle.dc_system.specs.Spots.{Net}
use Rattle.dc_system.proofs.Crossings.{made_by}
use Rattle.dc_system.proofs.Folds.{Joined, joined_at, first_in, second_in, first_to, second_from, was}
use Rattle.dc_system.proofs.Renumbered.{foldings_keep, starts}
use Rattle.dc_folding.proofs.Numbers.{location_before, location_before_is, entry_before, exit_before}
use Rattle.dc_plain.proofs.Prices.{ArePaid, IsPaid}

-- ---- a composed edge costs what both cost
composed_value : (n : ℕ) (e f : Edge) (x : List ℤ) → value (composed n e f).cost.terms x ≡ value e.cost.terms x +ℤ value f.cost.terms (values (after n e) x)
composed_value n e f x =
    value-plus e.cost.terms (sums.composed (places_of (after n e)) f.cost.terms (after n e)) x
    ∙ ap (λ y. value e.cost.terms x +ℤ y) (value-composed (places_of (after n e)) f.cost.terms (after n e) x)

meet : (a b c d y z w : ℤ) → w ≡ y +ℤ z → y ≡ a -ℤ b → z ≡ c -ℤ d → b ≡ c → w ≡ a -ℤ d
meet a b c d y z w e f g h = omega (arith, ints)

composed_pays : (n x l : ℕ) (es : List Edge) (c : Edge) (price : ℕ → ℤ) → ArePaid es price → Joined n x l es c → (y : List ℤ) → value c.cost.terms y ≡ price c.from -ℤ price c.to
composed_pays n x l es c price h J y =
    let e = J.first in
    let f = J.second in
    subst (λ (c : Edge). value c.cost.terms y ≡ price c.from -ℤ price c.to) (sym (made_by n e f c J.made).is)
    (meet (price e.from) (price e.to) (price f.from) (price f.to) _ _ _ (composed_value n e f y)
    (h e (first_in n x l es c J) y) (h f (second_in n x l es c J) (values (after n e) y))
    (ap price (first_to n x l es c J ∙ sym (second_from n x l es c J))))

fold_pays : (n x : ℕ) (start : List ℕ) (begun : List Edge) (price : ℕ → ℤ) → ArePaid begun price → {left : List ℕ} {es : List Edge} → Folding n x start begun left es → ArePaid es price
fold_pays n x start begun price h unfolded = h
fold_pays n x start begun price h (fold_least {left = left} {es = es} F l c q m) = λ g i y.
    let J = joined_at n x l es c q in
    let k = fold_pays n x start begun price h F in
    elim (was n x l es c J g i) [
      | inl e ↦ subst (λ (g : Edge). value g.cost.terms y ≡ price g.from -ℤ price g.to) (sym e) (composed_pays n x l es c price k J y)
      | inr j ↦ k g j.0 y
    ]

-- ---- the folded system
module _ (s t : System) (c : ℤ) (w : IsWellFormed s) (F : IsFolded s t) (h : IsPaid s c) where
  abbrev last : System
  last = record { vars = s.vars; params = s.params; locs = s.locs; edges = F.edges; literals = s.literals }

  net : Net s.vars (s.locs - 1) F.left F.edges
  net = (foldings_keep s.vars (s.locs - 1) (numbers_below s.locs) s.edges w.few_vars (starts s w) F.folding).net

  abbrev price_now : ℕ → ℤ
  price_now m = h.price (location_before last F.left net m)

  edges_now : ArePaid (map (renumbered F.left) F.edges) price_now
  edges_now g i y =
      let m : Mapped (renumbered F.left) g F.edges = mapped_among (renumbered F.left) F.edges i in
      let k = fold_pays s.vars (s.locs - 1) (numbers_below s.locs) s.edges h.price h.edges F.folding m.of m.among y in
      let b = net.between m.of m.among in
      subst (λ (g : Edge). value g.cost.terms y ≡ price_now g.from -ℤ price_now g.to) (sym m.is)
      (k ∙ ap₂ (λ i j. h.price i -ℤ h.price j) (sym (location_before_is last F.left net m.of.from b.0)) (sym (location_before_is last F.left net m.of.to b.1)))

  pub folded_paid : IsPaid t c
  folded_paid = subst (λ t. IsPaid t c) (sym F.is) (record {
    price = price_now;
    entry = ap h.price (entry_before last F.left net) ∙ h.entry;
    exit = ap h.price (exit_before last F.left net) ∙ h.exit;
    edges = edges_now;
  })
