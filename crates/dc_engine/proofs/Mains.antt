-- The main problem, and what its outcome gives.
use Rattle.std.specs.Prelude.{◌≡◌, ℕ, ◌≤◌, Bool, List, [], ◌∷◌, map, length, Some, None, Err}
use Rattle.std.specs.Option.{option_and_then}
use Rattle.std.proofs.Common.{refl, sym, ◌∙◌, ap, ap₂, subst, inl, inr, arith}
use Rattle.std.proofs.lemmas.List.{length-map}
use Rattle.dc_math.specs.Rational.{ℚ}
use Rattle.dc_affine.specs.declared.atom.Atom.{Atom}
use Rattle.dc_lp.specs.declared.Problem.{Problem}
use Rattle.dc_lp.specs.Problems.{linear_of}
use Rattle.dc_lp.specs.Tables.{Table}
use Rattle.dc_lp.specs.Meanings.{Meaning}
use Rattle.dc_simplex.specs.declared.Outcome.{Outcome}
use Rattle.dc_simplex.specs.declared.SolveFault.{SolveFault}
use Rattle.dc_simplex.specs.declared.SolveFault.TheVariants as solve
use Rattle.dc_simplex.specs.Limits.{Answer, Done, Past, Out, IsAnswer}
use Rattle.dc_simplex.specs.Outcomes.{TellsDone, Solves, UsesOneOfOpposites, TellsEnd, pivots_of}
use Rattle.dc_simplex.proofs.Ends.{answer_of}
use Rattle.dc_simplex.proofs.OneAnswer.{has_one_answer}
use Rattle.dc_system.specs.declared.edges.System.{System}
use Rattle.dc_cert.specs.declared.certificate.Body.{Body}
use Rattle.dc_cert.specs.Ranges.{is_live}
use Rattle.dc_points.specs.Stated.{rational}
use Rattle.dc_points.proofs.Flags.{flags_many}
use Rattle.dc_entail.specs.declared.answer.Site.TheVariants as site
use Rattle.dc_entail.specs.Asked.{AllDone, Refuses, IsRefusal as IsRefused}
use Rattle.dc_entail.proofs.Refusals.{refusals_join, excludes}
use Rattle.dc_rows.specs.declared.kinds.Candidates.{Candidates}
use Rattle.dc_families.specs.Graphs.{graph_of}
use Rattle.dc_families.specs.Families.{Family}
use Rattle.dc_families.specs.Printed.{Question, ArePrinted}
use Rattle.dc_greatest.specs.Refusals.{with_site}
use Rattle.dc_greatest.specs.declared.family.InvFault.{InvFault}
use Rattle.dc_greatest.specs.declared.family.InvFault.TheVariants as problem
use Rattle.dc_greatest.specs.Answers as greatest
use Rattle.dc_greatest.proofs.Unchanged.{both_done}
use Rattle.dc_invariant.specs.Keeps.{kept_atoms}
use Rattle.dc_claims.specs.Duties.{Pair, Flags}
use Rattle.dc_claims.specs.Plans.{IsPlan, IsFit}
use Rattle.dc_claims.specs.Parts.{unknowns_of}
use Rattle.dc_claims.specs.Problems.{main_problem, columns_of}
use Rattle.dc_mainlines.specs.Paired.{IsPaired}
use Rattle.dc_mainlines.proofs.Mains.{main_problems_are_paired}
use Rattle.dc_match.specs.Answers.{size_fault}
use Rattle.dc_check.specs.Faults.{count_of}
use Rattle.dc_check.specs.Pairs.{edge_flags}
use Rattle.dc_check.proofs.Counting.{unknowns-count}
use Rattle.dc_session.specs.declared.fault.AnalyseFault.{AnalyseFault}
use Rattle.dc_session.specs.declared.fault.AnalyseFault.TheVariants.{TooLarge, Past128, Budget, NoMemory}
use Rattle.dc_session.specs.Session.{Input, candidates_for, Analysis, pair_of, flags_of, main_of, main_asked, early_asked}
use Rattle.dc_session.specs.Made.{unknowns_in}
use Rattle.dc_session.specs.Refusals.{Excess, of_main, early_excess, main_excess, IsThrough, RefusesAt}
use Rattle.dc_session.specs.Answers.{IsInput, IsFault}
use Rattle.dc_session.proofs.Repeated.{case_flags_are}
use Rattle.dc_engine.specs.declared.lent.Lent.{Lent}
use Rattle.dc_engine.specs.declared.lent.Versions.{Versions}
use Rattle.dc_engine.specs.declared.lent.Early.{Early}
use Rattle.dc_engine.specs.Bodies.{CanTell, TellsBody}
use Rattle.dc_engine.specs.Faults.{IsExcess, refused_at}
use Rattle.dc_engine.specs.Parts.{input_of, AreVersions, TellsEarly, TellsMade, pair_in, flags_in, width_of, EarlyAsks}
use Rattle.dc_engine.proofs.Bodies.{can_tell, body_is}
use Rattle.dc_engine.proofs.Fits.{is_plan, are_cases, edge_flags_are, few_columns}

-- ---- refusals before the main problem
pub early_excess_fault : (i : Input) (f : AnalyseFault) → IsExcess (early_excess i) f → IsFault i f
early_excess_fault i (TooLarge side what n) h = inr (inl h)
early_excess_fault i (Past128 p) h = absurd h
early_excess_fault i (Budget q) h = absurd h
early_excess_fault i NoMemory h = inl refl

pub early_fault : (i : Input) → early_excess i ≡ None → (f : InvFault) → greatest.IsFault i.settings.pivots (EarlyAsks i) f → IsFault i (refused_at f)
early_fault i counts (problem.Past128 q k) (asked, (a, right, e), r) = inr (record {
  analysis = a;
  right = right;
  counts = counts;
  main_counts = λ d. absurd (excludes has_one_answer i.settings.pivots asked q (Past k) r (subst (AllDone i.settings.pivots) (sym e) d));
  refuses = (refusals_join i.settings.pivots (early_asked i a) (main_asked i a ∷ []) q (Past k)).1 (inl (subst (λ ps. Refuses i.settings.pivots ps q (Past k)) e r));
})
early_fault i counts (problem.Budget q) (asked, (a, right, e), r) = inr (record {
  analysis = a;
  right = right;
  counts = counts;
  main_counts = λ d. absurd (excludes has_one_answer i.settings.pivots asked q (Out i.settings.pivots) r (subst (AllDone i.settings.pivots) (sym e) d));
  refuses = (refusals_join i.settings.pivots (early_asked i a) (main_asked i a ∷ []) q (Out i.settings.pivots)).1 (inl (subst (λ ps. Refuses i.settings.pivots ps q (Out i.settings.pivots)) e r));
})
early_fault i counts problem.NoMemory h = inl refl

-- ---- the main problem
pair_with : System → System → List (List Atom) → List (List Atom) → List (List Atom) → Pair
pair_with s t cases xs ys = record { new = s; new_atoms = xs; old = t; old_atoms = ys; cases = cases }

flags_with : List Bool → Bool → List Bool → Bool → List Bool → Flags
flags_with new new_exit old old_exit cases = record { new_edges = new; new_exit = new_exit; old_edges = old; old_exit = old_exit; cases = cases }

printed_moved : (s z : System) (c d : Candidates) (J : Family) (printed : List (List Atom)) (asked : List (List Question)) → s ≡ z → c ≡ d
    → ArePrinted (graph_of s) c J printed asked → ArePrinted (graph_of z) d J printed asked
printed_moved s z c d J printed asked e f h =
    subst (λ x. ArePrinted (graph_of z) x J printed asked) f (subst (λ y. ArePrinted (graph_of y) c J printed asked) e h)

module _ (t : Lent) (v : Versions) (e : Early) (input : IsInput (input_of t)) (counts : early_excess (input_of t) ≡ None)
    (vs : AreVersions (input_of t) v) (h : TellsEarly (input_of t) v e) where
  abbrev i : Input
  i = input_of t

  abbrev a : Analysis
  a = h.analysis

  abbrev budget : ℕ
  budget = i.settings.pivots

  abbrev pair : Pair
  pair = pair_in t v e

  abbrev degree : ℕ
  degree = i.settings.degree

  abbrev products : ℕ
  products = i.settings.products

  -- ---- it is that of the analysis
  pair_is : pair ≡ pair_of i a
  unfolding pair_with
  pair_is =
      ap₂ (λ s z. pair_with s z i.cases e.new_side.families e.old_side.families) (sym h.new) (sym h.old)
      ∙ ap₂ (λ xs ys. pair_with a.new a.old i.cases xs ys) h.new_side.part.families h.old_side.part.families

  new_many : length a.new_part.edges_live ≡ length a.new.edges
  new_many = flags_many a.new_part.edges_live (map (kept_atoms (graph_of a.new) a.new_part.printed) a.new.edges) h.right.new_part.edges_live ∙ length-map a.new.edges (kept_atoms (graph_of a.new) a.new_part.printed)

  old_many : length a.old_part.edges_live ≡ length a.old.edges
  old_many = flags_many a.old_part.edges_live (map (kept_atoms (graph_of a.old) a.old_part.printed) a.old.edges) h.right.old_part.edges_live ∙ length-map a.old.edges (kept_atoms (graph_of a.old) a.old_part.printed)

  new_flags : edge_flags e.new_side.edges ≡ a.new_part.edges_live
  new_flags = edge_flags_are (graph_of a.new) a.new_part.printed budget a.new.edges a.new_part.edges_live e.new_side.edges new_many h.new_side.part.edges

  old_flags : edge_flags e.old_side.edges ≡ a.old_part.edges_live
  old_flags = edge_flags_are (graph_of a.old) a.old_part.printed budget a.old.edges a.old_part.edges_live e.old_side.edges old_many h.old_side.part.edges

  case_flags : map is_live e.when ≡ a.live
  case_flags = case_flags_are i.new.params budget i.cases a.live e.when h.when

  flags_is : flags_in e ≡ flags_of i a
  unfolding flags_with
  flags_is =
      ap₂ (λ x y. flags_with x y (edge_flags e.old_side.edges) (is_live e.old_side.exit_line) (map is_live e.when)) new_flags h.new_side.exit
      ∙ ap₂ (λ x y. flags_with a.new_part.edges_live a.new_part.exit_live x y (map is_live e.when)) old_flags h.old_side.exit
      ∙ ap (λ x. flags_with a.new_part.edges_live a.new_part.exit_live a.old_part.edges_live a.old_part.exit_live x) case_flags

  problem_is : main_problem pair degree products (flags_in e) ≡ main_of i a
  problem_is = ap₂ (λ p f. main_problem p degree products f) pair_is flags_is

  width_is : width_of t v e ≡ main_excess i a
  width_is = ap₂ (λ p f. option_and_then of_main (size_fault p degree products f)) pair_is flags_is

  -- ---- what it is made of has its sizes
  new_printed : ArePrinted (graph_of v.new.system) v.new.candidates a.new_part.family a.new_part.printed a.new_part.questions
  new_printed = printed_moved a.new v.new.system (candidates_for i i.new) v.new.candidates a.new_part.family a.new_part.printed a.new_part.questions h.new (sym vs.new.candidates) h.right.new_part.printed

  old_printed : ArePrinted (graph_of v.old.system) v.old.candidates a.old_part.family a.old_part.printed a.old_part.questions
  old_printed = printed_moved a.old v.old.system (candidates_for i i.old) v.old.candidates a.old_part.family a.old_part.printed a.old_part.questions h.old (sym vs.old.candidates) h.right.old_part.printed

  new_plan : IsPlan v.new.system e.new_side.families
  new_plan =
      subst (IsPlan v.new.system) (sym h.new_side.part.families)
      (is_plan v.new.system v.new.candidates a.new_part.family a.new_part.printed a.new_part.questions vs.new.well_formed vs.new.kind new_printed)

  old_plan : IsPlan v.old.system e.old_side.families
  old_plan =
      subst (IsPlan v.old.system) (sym h.old_side.part.families)
      (is_plan v.old.system v.old.candidates a.old_part.family a.old_part.printed a.old_part.questions vs.old.well_formed vs.old.kind old_printed)

  pub fit : IsFit pair degree products (flags_in e)
  fit = record {
    pair = record {
      new = new_plan;
      old = old_plan;
      params = vs.new.params ∙ sym vs.old.params;
      cases = are_cases i.new.params v.new.system.params i.cases vs.new.params input.condition;
    };
    flags = record {
      new = ap length new_flags ∙ new_many ∙ ap (λ (s : System). length s.edges) h.new;
      old = ap length old_flags ∙ old_many ∙ ap (λ (s : System). length s.edges) h.old;
      cases = ap length case_flags ∙ flags_many a.live i.cases h.right.live;
    };
    degree = input.settings.degree;
    some_products = input.settings.some_products;
    few_products = input.settings.few_products;
  }

  -- ---- the number of unknowns
  abbrev u : ℕ
  u = unknowns_in i a

  pub count_is : count_of v.new.system v.old.system degree ≡ u
  count_is = sym (unknowns-count pair degree) ∙ ap (λ p. length (unknowns_of p degree)) pair_is

  paired : IsPaired (main_of i a) u
  paired = main_problems_are_paired (pair_of i a) degree products (flags_of i a)

  pub room : width_of t v e ≡ None → count_of v.new.system v.old.system degree ≤ 8192
  room z =
      let c = few_columns (length (columns_of (pair_of i a) degree products (flags_of i a))) _ (sym width_is ∙ z) in
      let r = paired.room in
      let k = count_is in
      omega arith

  -- ---- refusals
  begun_fault : (side : Excess) → main_excess i a ≡ Some side → IsFault i (TooLarge side.side side.what side.count)
  begun_fault x z = inr (inr (a, record { analysis = h.right; counts = counts; through = h.through }, z))

  pub width_fault : (f : AnalyseFault) → IsExcess (width_of t v e) f → IsFault i f
  width_fault (TooLarge side what n) z = begun_fault _ (sym width_is ∙ z)
  width_fault (Past128 p) z = absurd z
  width_fault (Budget q) z = absurd z
  width_fault NoMemory z = inl refl

  module _ (p : Problem) (same : linear_of p ≡ rational (main_problem pair degree products (flags_in e))) (z : width_of t v e ≡ None) where
    stated : linear_of p ≡ rational (main_of i a)
    stated = same ∙ ap rational problem_is

    within : main_excess i a ≡ None
    within = sym width_is ∙ z

    refused : (r : Answer) → IsRefused r → IsAnswer (linear_of p) budget r → RefusesAt i site.Main r
    refused r s k = record {
      analysis = a;
      right = h.right;
      counts = counts;
      main_counts = λ d. within;
      refuses = (refusals_join budget (early_asked i a) (main_asked i a ∷ []) site.Main r).1 (inr (h.through, inl (refl, s, subst (λ l. IsAnswer l budget r) stated k)));
    }

    pub main_fault : (left : Meaning) (f : SolveFault) → Solves (linear_of p) budget left (Err f) → IsFault i (refused_at (with_site site.Main f))
    main_fault left (solve.Past128 k) s = inr (refused (Past k) tt s)
    main_fault left (solve.Budget n) s = inr (subst (λ m. RefusesAt i site.Main (Out m)) s.1 (refused (Out n) tt s))
    main_fault left solve.NoMemory s = inl refl

    -- ---- the outcome
    module _ (left : Meaning) (o : Outcome) (d : TellsDone (linear_of p) budget left o) where
      abbrev end : Table ℚ
      end = d.outcome.state.table

      vectors : TellsEnd (rational (main_of i a)) end d.outcome.ending o
      vectors = subst (λ l. TellsEnd l end d.outcome.ending o) stated d.outcome.vectors

      pub tell : (n : ℕ) → n ≡ count_of v.new.system v.old.system degree → UsesOneOfOpposites (linear_of p) o → CanTell n o
      tell n q w =
          subst (λ m. CanTell m o) (sym (q ∙ count_is))
          (can_tell (main_of i a) u paired end d.outcome.ending o vectors (subst (λ l. UsesOneOfOpposites l o) stated w))

      through : IsThrough i a
      through = record {
        analysis = h.right;
        counts = counts;
        main_counts = within;
        through = both_done budget (early_asked i a) (main_asked i a ∷ []) h.through
            ((pivots_of o, d.outcome.ending, end, subst (λ l. IsAnswer l budget (Done (pivots_of o) d.outcome.ending end)) stated (answer_of (linear_of p) budget left o d)), tt);
      }

      pub made_told : (n : ℕ) → n ≡ count_of v.new.system v.old.system degree → (b : Body) → TellsBody n o b
          → TellsMade i left (record { version = 2; body = b; degree = degree; products = products; when = e.when; new_side = e.new_side; old_side = e.old_side })
      made_told n q b k = record {
        analysis = a;
        through = through;
        table = end;
        made = record {
          version = refl;
          degree = refl;
          products = refl;
          when = h.when;
          new_side = h.new_side;
          old_side = h.old_side;
          main = record {
            ending = d.outcome.ending;
            comes = record {
              pivots = pivots_of o;
              answer = subst (λ l. IsAnswer l budget (Done (pivots_of o) d.outcome.ending end)) stated (answer_of (linear_of p) budget left o d);
            };
          };
          body = body_is (main_of i a) u paired end d.outcome.ending o b vectors (subst (λ m. TellsBody m o b) (q ∙ count_is) k);
        };
        rest = d.rest;
      }
