-- The text of a certificate, line by line.
use Rattle.std.specs.Prelude.{ℕ, suc, eqb, cond, List, [], ◌∷◌, ◌++◌, map, length, codes}
use Rattle.std.specs.Fmt.{decimal, signed_decimal}
use Rattle.dc_math.specs.Floor.{floor}
use Rattle.dc_frac.specs.declared.Frac.{Frac}
use Rattle.dc_frac.specs.Value.{value}
use Rattle.dc_affine.specs.declared.atom.Atom.{Atom}
use Rattle.dc_cert.specs.declared.sparse.Sparse.{Sparse}
use Rattle.dc_cert.specs.declared.certificate.Liveness.{Liveness}
use Rattle.dc_cert.specs.declared.certificate.Liveness.TheVariants.{Dead, Live}
use Rattle.dc_cert.specs.declared.certificate.EdgeCert.{EdgeCert}
use Rattle.dc_cert.specs.declared.certificate.SideCert.{SideCert}
use Rattle.dc_cert.specs.declared.certificate.Body.{Body}
use Rattle.dc_cert.specs.declared.certificate.Body.TheVariants.{Threshold, Nothing, Vacuous}
use Rattle.dc_cert.specs.declared.certificate.Claim.{Claim}
use Rattle.dc_cert.specs.declared.certificate.Claim.TheVariants as C
use Rattle.dc_cert.specs.declared.certificate.Certificate.{Certificate}
use Rattle.dc_cert.specs.Claims.{claim_of}
use Rattle.dc_lines.specs.Bytes.{Bytes, ended}
use Rattle.dc_certtext.specs.Words.{frac_text, vector_text, atom_text}

-- ---- single lines
abbrev pub vector_line : Bytes → Sparse → Bytes
vector_line word s = word ++ vector_text s

abbrev pub shown_text : Liveness → Bytes
shown_text (Dead s) = codes " dead" ++ vector_text s
shown_text (Live s) = codes " live" ++ vector_text s

abbrev pub shown_line : Bytes → Liveness → Bytes
shown_line word l = word ++ shown_text l

abbrev pub numbered : Bytes → ℕ → Bytes
numbered word n = word ++ decimal n

abbrev pub threshold_line : Frac → Bytes
threshold_line t = codes "threshold " ++ frac_text t

-- the greatest whole number that is at most the threshold
abbrev pub whole_line : Frac → Bytes
whole_line t = codes "whole " ++ signed_decimal (floor (value t))

abbrev pub sizes_line : ℕ → ℕ → Bytes
sizes_line degree products =
    codes "degree " ++ (decimal degree ++ (codes " products " ++ decimal products))

abbrev pub atom_line : Atom → Bytes
atom_line a = codes "atom" ++ atom_text a

abbrev pub entry_line : ℕ → ℕ → Bytes
entry_line version n = codes "entry" ++ cond (eqb version 1) [] (32 ∷ decimal n)

abbrev pub edge_line : ℕ → Liveness → Bytes
edge_line n l = shown_line (numbered (codes "edge ") n) l

-- ---- groups of lines, numbered from 0 on
abbrev pub groups : {A : Type 0} → (ℕ → A → List Bytes) → ℕ → List A → List Bytes
groups f n [] = []
groups f n (x ∷ xs) = f n x ++ groups f (suc n) xs

abbrev pub location_lines : ℕ → List Atom → List Bytes
location_lines n atoms = numbered (codes "location ") n ∷ map atom_line atoms

abbrev pub keep_lines : List Sparse → List Bytes
keep_lines keeps = map (vector_line (codes "keep")) keeps

abbrev pub entry_lines : ℕ → ℕ → List Sparse → List Bytes
entry_lines version n keeps = entry_line version n ∷ keep_lines keeps

abbrev pub edge_lines : ℕ → EdgeCert → List Bytes
edge_lines n e = edge_line n e.live ∷ keep_lines e.keeps

abbrev pub side_lines : ℕ → SideCert → List Bytes
side_lines version s =
    groups location_lines 0 s.families
    ++ (groups (entry_lines version) 0 s.entry_keeps
    ++ (groups edge_lines 0 s.edges ++ (shown_line (codes "exit") s.exit_line ∷ [])))

-- ---- the whole
-- the first line of a claim's
abbrev pub claim_line : Claim → Bytes
claim_line (C.Threshold t) = threshold_line t
claim_line C.Nothing = codes "none"
claim_line C.Vacuous = codes "vacuous"

-- a threshold has a second one
abbrev pub claim_lines : Claim → List Bytes
claim_lines (C.Threshold t) = claim_line (C.Threshold t) ∷ whole_line t ∷ []
claim_lines C.Nothing = claim_line C.Nothing ∷ []
claim_lines C.Vacuous = claim_line C.Vacuous ∷ []

-- version 1 has no line with the number of cases
abbrev pub cases_lines : ℕ → ℕ → List Bytes
cases_lines version cases = cond (eqb version 1) [] (numbered (codes "cases ") cases ∷ [])

abbrev pub body_lines : Body → List Bytes
body_lines (Threshold t unknown lambda dual) =
    vector_line (codes "unknown") unknown ∷ vector_line (codes "lambda") lambda
    ∷ vector_line (codes "dual") dual ∷ []
body_lines (Nothing dual) = vector_line (codes "dual") dual ∷ []
body_lines (Vacuous unknown lambda ray_unknown ray_lambda) =
    vector_line (codes "unknown") unknown ∷ vector_line (codes "lambda") lambda
    ∷ vector_line (codes "ray unknown") ray_unknown ∷ vector_line (codes "ray lambda") ray_lambda
    ∷ []

-- from the claim to the cases of the condition
abbrev pub head_lines : Certificate → List Bytes
head_lines c =
    claim_lines (claim_of c.body)
    ++ (numbered (codes "diffcost ") c.version ∷ sizes_line c.degree c.products
    ∷ (cases_lines c.version (length c.when) ++ map (shown_line (codes "when")) c.when))

abbrev pub lines_of : Certificate → List Bytes
lines_of c =
    head_lines c ++ (codes "side new"
    ∷ (side_lines c.version c.new_side
    ++ (codes "side old"
    ∷ (side_lines c.version c.old_side
    ++ (codes "main" ∷ (body_lines c.body ++ (codes "end" ∷ [])))))))

abbrev pub text_of : Certificate → Bytes
text_of c = ended (lines_of c)
