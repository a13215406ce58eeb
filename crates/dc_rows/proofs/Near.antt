-- The bounds are the numbers near a number that is mentioned.
use Rattle.std.proofs.Common.{◌≡◌, ℕ, zero, suc, ◌≤◌, filter, flat_map, ℤ, pos, negsuc, neg_ℤ, ◌-ℤ◌, unsigned_abs, ◌⊎◌, inl, inr, refl, sym, subst, arith}
use Rattle.std.proofs.lemmas.Int.{ints}
use Rattle.std.proofs.lemmas.Bool.{leb-true, le-leb}
use Rattle.dc_math.specs.Members.{Among, tail, none_among, among_first, among_cons, among_flat, among_flat_back, among_filter, among_filter_back}
use Rattle.dc_rows.specs.Bounds.{around, mentioned, is_within, largest_bound}
use Rattle.dc_rows.specs.Laws.{IsNear, BoundsAreNear}
use Rattle.dc_rows.proofs.Rising.{in-rising, in_rising}

small : (z : ℤ) → unsigned_abs z ≤ 1 → (z ≡ negsuc 0) ⊎ ((z ≡ pos 0) ⊎ (z ≡ pos 1))
small (pos zero) h = inr (inl refl)
small (pos (suc zero)) h = inr (inr refl)
small (pos (suc (suc n))) h = absurd (omega arith)
small (negsuc zero) h = inl refl
small (negsuc (suc n)) h = absurd (omega arith)

by_size : (z w : ℤ) → z ≡ w → unsigned_abs w ≤ 1 → unsigned_abs z ≤ 1
by_size z w e h = subst (λ x. unsigned_abs x ≤ 1) (sym e) h

near_one : (b : ℤ) (c : ℕ) → Among b (around c) → IsNear b c
near_one b c i = elim (among_cons i) [
  | inl e ↦ (b, inl refl, by_size (b -ℤ pos c) (negsuc 0) (omega (arith, ints)) (omega arith))
  | inr i ↦ elim (among_cons i) [
    | inl e ↦ (b, inl refl, by_size (b -ℤ pos c) (pos 0) (omega (arith, ints)) (omega arith))
    | inr i ↦ elim (among_cons i) [
      | inl e ↦ (b, inl refl, by_size (b -ℤ pos c) (pos 1) (omega (arith, ints)) (omega arith))
      | inr i ↦ elim (among_cons i) [
        | inl e ↦ (neg_ℤ b, inr refl, by_size (neg_ℤ b -ℤ pos c) (negsuc 0) (omega (arith, ints)) (omega arith))
        | inr i ↦ elim (among_cons i) [
          | inl e ↦ (neg_ℤ b, inr refl, by_size (neg_ℤ b -ℤ pos c) (pos 0) (omega (arith, ints)) (omega arith))
          | inr i ↦ elim (among_cons i) [
            | inl e ↦ (neg_ℤ b, inr refl, by_size (neg_ℤ b -ℤ pos c) (pos 1) (omega (arith, ints)) (omega arith))
            | inr i ↦ none_among i
          ]
        ]
      ]
    ]
  ]
]

one_near : (b : ℤ) (c : ℕ) → IsNear b c → Among b (around c)
one_near b c w = by w.0 w.1 (small (w.0 -ℤ pos c) w.2)
  where
    by : (d : ℤ) → (d ≡ b) ⊎ (d ≡ neg_ℤ b) → ((d -ℤ pos c) ≡ negsuc 0) ⊎ (((d -ℤ pos c) ≡ pos 0) ⊎ ((d -ℤ pos c) ≡ pos 1)) → Among b (around c)
    by d (inl e) (inl h) = among_first (omega (arith, ints))
    by d (inl e) (inr (inl h)) = tail (among_first (omega (arith, ints)))
    by d (inl e) (inr (inr h)) = tail (tail (among_first (omega (arith, ints))))
    by d (inr e) (inl h) = tail (tail (tail (among_first (omega (arith, ints)))))
    by d (inr e) (inr (inl h)) = tail (tail (tail (tail (among_first (omega (arith, ints))))))
    by d (inr e) (inr (inr h)) = tail (tail (tail (tail (tail (among_first (omega (arith, ints)))))))

pub bounds_are_near : BoundsAreNear
bounds_are_near s when b = (
  λ i.
      let f = among_filter_back is_within b (flat_map around (mentioned s when)) (in_rising b (filter is_within (flat_map around (mentioned s when))) i) in
      let w = among_flat_back around b (mentioned s when) f.0 in (leb-true (unsigned_abs b) largest_bound f.1, (w.0, w.1, near_one b w.0 w.2)),
  λ h.
      in-rising b (filter is_within (flat_map around (mentioned s when)))
      (among_filter is_within b (flat_map around (mentioned s when)) (le-leb (unsigned_abs b) largest_bound h.0) (among_flat around h.1.0 b (mentioned s when) h.1.1 (one_near b h.1.0 h.1.2))),
)
