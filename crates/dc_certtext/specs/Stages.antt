-- Which lines may come next at each stage.
use Rattle.std.specs.Prelude.{ℕ, suc, true, not, ltb, cond, eqb, List, [], ◌∷◌, ◌++◌, length, codes, Option, Some, None, MatchOption}
use Rattle.dc_affine.specs.declared.atom.Atom.{Atom}
use Rattle.dc_cert.specs.declared.sparse.Sparse.{Sparse}
use Rattle.dc_cert.specs.declared.certificate.Liveness.{Liveness}
use Rattle.dc_cert.specs.declared.certificate.EdgeCert.{EdgeCert}
use Rattle.dc_cert.specs.declared.certificate.SideCert.{SideCert}
use Rattle.dc_cert.specs.declared.certificate.Claim.{Claim}
use Rattle.dc_cert.specs.declared.certificate.Claim.TheVariants as C
use Rattle.dc_certtext.specs.declared.stage.Head.{Head}
use Rattle.dc_certtext.specs.declared.stage.Front.{Front}
use Rattle.dc_certtext.specs.declared.stage.Stage.{Stage}
use Rattle.dc_certtext.specs.declared.stage.Stage.TheVariants.{Start, Whole, Version, Sizes, Cases, Heads, Opened, Locations, Entries, Edges, Between, Closed, Main, End, Done}
use Rattle.dc_lines.specs.Bytes.{Bytes}
use Rattle.dc_certtext.specs.Text.{whole_line, numbered, entry_line}
use Rattle.dc_certtext.specs.Due.{nothing_found, due, with_vector}
use Rattle.dc_certtext.specs.Offers.{plain, vector, shown, atom, fraction, number, sizes, Offer, offer, Any}

abbrev pub head : Claim → ℕ → ℕ → ℕ → ℕ → List Liveness → Head
head c v d k m when = record {
  claim = c;
  version = v;
  degree = d;
  products = k;
  cases = m;
  when = when;
}

abbrev pub with_when : Head → Liveness → Head
with_when h l = head h.claim h.version h.degree h.products h.cases (h.when ++ l ∷ [])

abbrev pub front : Head → Option SideCert → Front
front h n = record { head = h; new = n }

abbrev pub edge_of : Liveness → List Sparse → EdgeCert
edge_of l keeps = record { live = l; keeps = keeps }

abbrev pub side_of : List (List Atom) → List (List Sparse) → List EdgeCert → Liveness → SideCert
side_of fam ents edges l = record { families = fam; entry_keeps = ents; edges = edges; exit_line = l }

-- version 1 has one case
abbrev pub sized : Claim → ℕ → ℕ → ℕ → Stage
sized c v d k = cond (eqb v 1) (Heads (head c 1 d k 1 [])) (Cases c d k)

abbrev pub closed_by : Head → Option SideCert → SideCert → Stage
closed_by h None s = Between h s
closed_by h (Some n) s = Closed h n s

abbrev pub offers : Stage → List Offer
offers Start =
    offer true (codes "threshold ") (fraction (λ t. Whole t))
    ∷ offer true (codes "none") (plain (Version C.Nothing))
    ∷ offer true (codes "vacuous") (plain (Version C.Vacuous)) ∷ []
offers (Whole t) = offer true (whole_line t) (plain (Version (C.Threshold t))) ∷ []
offers (Version c) = offer true (codes "diffcost ") (number 1 2 (λ v. Sizes c v)) ∷ []
offers (Sizes c v) = offer true (codes "degree ") (sizes (λ d k. sized c v d k)) ∷ []
offers (Cases c d k) = offer true (codes "cases ") (number 1 64 (λ m. Heads (head c 2 d k m []))) ∷ []
offers (Heads h) =
    offer (ltb (length h.when) h.cases) (codes "when") (shown (λ l. Heads (with_when h l)))
    ∷ offer (not (ltb (length h.when) h.cases)) (codes "side new") (plain (Opened (front h None)))
    ∷ []
offers (Opened f) = offer true (numbered (codes "location ") 0) (plain (Locations f [] [])) ∷ []
offers (Locations f done last) =
    offer (ltb (length last) 1024) (codes "atom") (atom (λ a. Locations f done (last ++ a ∷ [])))
    ∷ offer (ltb (suc (length done)) 128) (numbered (codes "location ") (suc (length done)))
    (plain (Locations f (done ++ last ∷ []) []))
    ∷ offer true (entry_line f.head.version 0) (plain (Entries f (done ++ last ∷ []) [] []))
    ∷ []
offers (Entries f fam done last) =
    offer (ltb (length last) 1024) (codes "keep") (vector (λ s. Entries f fam done (last ++ s ∷ [])))
    ∷ offer (ltb (suc (length done)) f.head.cases) (entry_line f.head.version (suc (length done)))
    (plain (Entries f fam (done ++ last ∷ []) []))
    ∷ offer (not (ltb (suc (length done)) f.head.cases)) (numbered (codes "edge ") 0)
    (shown (λ l. Edges f fam (done ++ last ∷ []) [] l []))
    ∷ offer (not (ltb (suc (length done)) f.head.cases)) (codes "exit")
    (shown (λ l. closed_by f.head f.new (side_of fam (done ++ last ∷ []) [] l)))
    ∷ []
offers (Edges f fam ents done live last) =
    offer (ltb (length last) 1024) (codes "keep")
    (vector (λ s. Edges f fam ents done live (last ++ s ∷ [])))
    ∷ offer (ltb (suc (length done)) 512) (numbered (codes "edge ") (suc (length done)))
    (shown (λ l. Edges f fam ents (done ++ edge_of live last ∷ []) l []))
    ∷ offer true (codes "exit")
    (shown (λ l. closed_by f.head f.new (side_of fam ents (done ++ edge_of live last ∷ []) l)))
    ∷ []
offers (Between h n) = offer true (codes "side old") (plain (Opened (front h (Some n)))) ∷ []
offers (Closed h n o) = offer true (codes "main") (plain (Main h n o (nothing_found h.claim))) ∷ []
offers (Main h n o found) = offer true (due found) (vector (λ s. with_vector h n o found s)) ∷ []
offers (End c) = offer true (codes "end") (plain (Done c)) ∷ []
offers (Done c) = []

-- nothing is answered where no offer of the stage takes the line, else the stage that it leads to
abbrev pub Steps : Stage → Bytes → Option Stage → Type 0
Steps s b o = MatchOption o ((t : Stage) → ¬ Any (offers s) b t) (λ t. Any (offers s) b t)

abbrev pub None_taken : List Offer → Bytes → Type 0
None_taken os b = (t : Stage) → ¬ Any os b t
