-- An edge whose source a round has not changed: it gives what is left at its target, and asks nothing new.
use Rattle.std.specs.Prelude.{◌≡◌, ℕ, Bool, true, false, cond, if◌then◌else◌, List, [], ◌∷◌, ◌++◌, map, filter}
use Rattle.std.proofs.Common.{refl, sym, subst}
use Rattle.std.specs.Cmp.{both_ways}
use mathlib.Core.Path.{fun_ext}
use Rattle.dc_math.specs.Members.{Among, head, tail, among_map, mapped_among, among_filter}
use Rattle.dc_syntax.specs.declared.tree.Side.{Side}
use Rattle.dc_affine.specs.declared.atom.Atom.{Atom}
use Rattle.dc_system.specs.declared.edges.Edge.{Edge}
use Rattle.dc_entail.specs.Asked.{Asked, IsDone, AllDone}
use Rattle.dc_rows.specs.declared.kinds.Candidates.{Candidates}
use Rattle.dc_rows.specs.Candidate.{row_at}
use Rattle.dc_families.specs.Graphs.{Graph}
use Rattle.dc_families.specs.Families.{Family, never, bounded, kept_rows}
use Rattle.dc_system.specs.After.{is_affine_after}
use Rattle.dc_families.specs.Rounds.{EdgeGives, IsRound, IsWithin}
use Rattle.dc_system.proofs.Filters.{in_kept}
use Rattle.dc_families.proofs.Greatest.{round_within}
use Rattle.dc_families.proofs.Upward.{kept_is, kept_there}
use Rattle.dc_families.proofs.Lists.{find_is}
use Rattle.dc_greatest.specs.Parts.{entry_row, entry_rows, edge_row, edge_empty}
use Rattle.dc_greatest.specs.Laws.{UnchangedGive, UnchangedAsk, EntriesAskOnce}

-- ---- lists of problems that come to their end
pub each_done : (budget : ℕ) (qs : List Asked) → ((q : Asked) → Among q qs → IsDone budget q) → AllDone budget qs
each_done budget [] h = tt
each_done budget (q ∷ qs) h = (h q head, each_done budget qs (λ r m. h r (tail m)))

pub done_each : (budget : ℕ) (qs : List Asked) → AllDone budget qs → (q : Asked) → Among q qs → IsDone budget q
done_each budget [] d q m = elim m [ ]
done_each budget (r ∷ qs) d _ head = d.0
done_each budget (r ∷ qs) d q (tail m) = done_each budget qs d.1 q m

pub fewer_done : (budget : ℕ) (ps qs : List Asked) → ((q : Asked) → Among q ps → Among q qs) → AllDone budget qs → AllDone budget ps
fewer_done budget ps qs h d = each_done budget ps (λ q m. done_each budget qs d q (h q m))

pub both_done : (budget : ℕ) (ps qs : List Asked) → AllDone budget ps → AllDone budget qs → AllDone budget (ps ++ qs)
both_done budget [] qs d e = e
both_done budget (p ∷ ps) qs d e = (d.0, both_done budget ps qs d.1 e)

-- ---- rows of a smaller family
pub fewer_rows : (c : Candidates) (K J : Family) (l : ℕ) → IsWithin K J → (r : ℕ) → Among r (kept_rows c K l) → Among r (kept_rows c J l)
fewer_rows c K J l w r m =
    let k = kept_is c K l r m in
    let f = find_is (λ b. K l (bounded (row_at c r) b)) k.1.0 c.bounds k.1.1 in
    (kept_there c J l r k.1.0 k.0 f.0 (w l _ f.1)).0

module _ (s : Graph) (cases : List (List Atom)) (J K : Family) (r : IsRound s cases J K) (e : Edge) (same : (b : Atom) → J e.from b ≡ true → K e.from b ≡ true) where
  gives : (a : Atom) → Among e s.edges → K e.to a ≡ true → EdgeGives s K e a
  gives a m t p f h = ((r e.to a).0 t).1.edges e m refl p (record { each = λ b j. f.each b (same b j) }) h

  same_source : J e.from ≡ K e.from
  same_source = fun_ext (λ a. both_ways (J e.from a) (K e.from a) (same a) (round_within s cases J K r e.from a))

pub unchanged_give : UnchangedGive
unchanged_give s cases J K e a r same m t = gives s cases J K r e same a m t

-- the problems of an edge, by what the family has at the source and by the rows that are kept at the target
abbrev asked_by : Side → Graph → Candidates → (Atom → Bool) → ℕ → Edge → Bool → List ℕ → List Asked
asked_by side s c f k e live rows =
    if f (never s.vars) then [] else edge_empty side s c (λ l. f) k e ∷ (if live then map (edge_row side s c (λ l. f) k e) (filter (λ r. is_affine_after e (row_at c r)) rows) else [])

fewer_asked : (side : Side) (s : Graph) (c : Candidates) (f : Atom → Bool) (budget k : ℕ) (e : Edge) (live : Bool) (xs ys : List ℕ)
    → ((r : ℕ) → Among r xs → Among r ys) → AllDone budget (asked_by side s c f k e live ys) → AllDone budget (asked_by side s c f k e live xs)
fewer_asked side s c f budget k e live xs ys h d = by (f (never s.vars)) live d
  where
    row : ℕ → Asked
    row r = edge_row side s c (λ l. f) k e r

    p : ℕ → Bool
    p r = is_affine_after e (row_at c r)

    fewer : (q : Asked) → Among q (map row (filter p xs)) → Among q (map row (filter p ys))
    fewer q m =
        let g = mapped_among row (filter p xs) m in
        let i = in_kept p g.of xs g.among in
        subst (λ x. Among x (map row (filter p ys))) (sym g.is) (among_map row (among_filter p g.of ys i.passes (h g.of i.among)))

    by : (b live : Bool) → AllDone budget (cond b [] (edge_empty side s c (λ l. f) k e ∷ cond live (map row (filter p ys)) [])) → AllDone budget (cond b [] (edge_empty side s c (λ l. f) k e ∷ cond live (map row (filter p xs)) []))
    by true live d = tt
    by false true d = (d.0, fewer_done budget _ _ fewer d.1)
    by false false d = (d.0, tt)

pub unchanged_ask : UnchangedAsk
unchanged_ask side s cases c J K budget k e live r same d =
    let w = round_within s cases J K r in
    let f = fewer_asked side s c (J e.from) budget k e live (kept_rows c K e.to) (kept_rows c J e.to) (fewer_rows c K J e.to w) d in
    subst (λ (g : Atom → Bool). AllDone budget (asked_by side s c g k e live (kept_rows c K e.to))) (same_source s cases J K r e same) f

pub entries_ask_once : EntriesAskOnce
entries_ask_once side s cases c J K budget k case r d = fewer_done budget _ _ (λ q m.
    let f = mapped_among (entry_row side s c J k case) (kept_rows c K 0) m in
    subst (λ x. Among x (entry_rows side s c J k case)) (sym f.is) (among_map (entry_row side s c J k case) (fewer_rows c K J 0 (round_within s cases J K r) f.of f.among))) d
