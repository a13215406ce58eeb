-- The lines that are read at each stage.
use Rattle.std.specs.Prelude.{◌≡◌, ℕ, suc, ◌+◌, List, [], ◌∷◌, ◌++◌, map, length, codes, Option, Some, None, refl}
use Rattle.std.proofs.Common.{sym, ◌∙◌, ap, arith, append_assoc}
use Rattle.std.proofs.lemmas.List.{append-nil}
use Rattle.dc_cert.specs.declared.certificate.SideCert.{SideCert}
use Rattle.dc_cert.specs.declared.certificate.Certificate.{Certificate}
use Rattle.dc_cert.specs.declared.certificate.Claim.{Claim}
use Rattle.dc_certtext.specs.declared.stage.Head.{Head}
use Rattle.dc_certtext.specs.declared.stage.Found.{Found}
use Rattle.dc_certtext.specs.declared.stage.Found.TheVariants as F
use Rattle.dc_certtext.specs.declared.stage.Stage.{Stage}
use Rattle.dc_certtext.specs.declared.stage.Stage.TheVariants.{Start, Whole, Version, Sizes, Cases, Heads, Opened, Locations, Entries, Edges, Between, Closed, Main, End, Done}
use Rattle.dc_lines.specs.Bytes.{Bytes}
use Rattle.dc_cert.specs.Claims.{claim_of}
use Rattle.dc_certtext.specs.Text.{claim_lines, vector_line, shown_line, numbered, threshold_line, sizes_line, groups, location_lines, entry_lines, edge_lines, side_lines, cases_lines, body_lines, lines_of}
use Rattle.dc_certtext.specs.Stages.{head, edge_of}

-- ---- lists with something behind them

abbrev pub sized_lines : Claim → ℕ → ℕ → ℕ → List Bytes
sized_lines c v d k = (claim_lines c ++ numbered (codes "diffcost ") v ∷ []) ++ sizes_line d k ∷ []

abbrev pub headed : Head → List Bytes
headed h = (sized_lines h.claim h.version h.degree h.products ++ cases_lines h.version h.cases) ++ map (shown_line (codes "when")) h.when

abbrev pub between : Head → SideCert → List Bytes
between h n = (headed h ++ codes "side new" ∷ []) ++ side_lines h.version n

abbrev pub opened : Head → Option SideCert → List Bytes
opened h None = headed h ++ codes "side new" ∷ []
opened h (Some n) = between h n ++ codes "side old" ∷ []

abbrev pub closed : Head → SideCert → SideCert → List Bytes
closed h n o = (between h n ++ codes "side old" ∷ []) ++ side_lines h.version o

abbrev pub found_lines : Found → List Bytes
found_lines (F.Threshold t) = []
found_lines (F.ThresholdUnknown t u) = vector_line (codes "unknown") u ∷ []
found_lines (F.ThresholdLambda t u l) = vector_line (codes "unknown") u ∷ vector_line (codes "lambda") l ∷ []
found_lines F.Nothing = []
found_lines F.Vacuous = []
found_lines (F.VacuousUnknown u) = vector_line (codes "unknown") u ∷ []
found_lines (F.VacuousLambda u l) = vector_line (codes "unknown") u ∷ vector_line (codes "lambda") l ∷ []
found_lines (F.VacuousRay u l r) = vector_line (codes "unknown") u ∷ vector_line (codes "lambda") l ∷ vector_line (codes "ray unknown") r ∷ []

-- a certificate's head
abbrev pub head_of : Certificate → Head
head_of c = head (claim_of c.body) c.version c.degree c.products (length c.when) c.when

abbrev pub before_end : Certificate → List Bytes
before_end c = (closed (head_of c) c.new_side c.old_side ++ codes "main" ∷ []) ++ body_lines c.body

-- the lines that are read
abbrev pub so_far : Stage → List Bytes
so_far Start = []
so_far (Whole t) = threshold_line t ∷ []
so_far (Version c) = claim_lines c
so_far (Sizes c v) = claim_lines c ++ numbered (codes "diffcost ") v ∷ []
so_far (Cases c d k) = sized_lines c 2 d k
so_far (Heads h) = headed h
so_far (Opened f) = opened f.head f.new
so_far (Locations f done last) = opened f.head f.new ++ groups location_lines 0 (done ++ last ∷ [])
so_far (Entries f fam done last) = (opened f.head f.new ++ groups location_lines 0 fam) ++ groups (entry_lines f.head.version) 0 (done ++ last ∷ [])
so_far (Edges f fam ents done live last) =
    ((opened f.head f.new ++ groups location_lines 0 fam) ++ groups (entry_lines f.head.version) 0 ents) ++ groups edge_lines 0 (done ++ edge_of live last ∷ [])
so_far (Between h n) = between h n
so_far (Closed h n o) = closed h n o
so_far (Main h n o found) = (closed h n o ++ codes "main" ∷ []) ++ found_lines found
so_far (End c) = before_end c
so_far (Done c) = lines_of c

-- ---- a group at the end
groups-last : {A : Type 0} (f : ℕ → A → List Bytes) (n : ℕ) (xs : List A) (x : A) → groups f n (xs ++ x ∷ []) ≡ groups f n xs ++ f (n + length xs) x
groups-last f n [] x = append-nil (f n x) ∙ ap (λ k. f k x) (let q : n ≡ n + 0 = omega arith in q)
groups-last f n (y ∷ xs) x =
    ap (λ l. f n y ++ l) (groups-last f (suc n) xs x ∙ ap (λ k. groups f (suc n) xs ++ f k x) (let q : suc n + length xs ≡ n + suc (length xs) = omega arith in q)) ∙ sym (append_assoc (f n y) (groups f (suc n) xs) (f (n + suc (length xs)) x))

-- a line more in the last group, and a new group of one line
pub more_in : {A : Type 0} (f : ℕ → A → List Bytes) (p : List Bytes) (xs : List A) (x y : A) (b : Bytes) → f (0 + length xs) y ≡ f (0 + length xs) x ++ b ∷ [] → p ++ groups f 0 (xs ++ y ∷ []) ≡ (p ++ groups f 0 (xs ++ x ∷ [])) ++ b ∷ []
more_in f p xs x y b e =
    ap (λ l. p ++ l) (groups-last f 0 xs y ∙ ap (λ l. groups f 0 xs ++ l) e ∙ sym (append_assoc (groups f 0 xs) (f (0 + length xs) x) (b ∷ [])) ∙ ap (λ l. l ++ b ∷ []) (sym (groups-last f 0 xs x)))
    ∙ sym (append_assoc p (groups f 0 (xs ++ x ∷ [])) (b ∷ []))

pub new_group : {A : Type 0} (f : ℕ → A → List Bytes) (p : List Bytes) (xs : List A) (x : A) (b : Bytes) → f (0 + length xs) x ≡ b ∷ [] → p ++ groups f 0 (xs ++ x ∷ []) ≡ (p ++ groups f 0 xs) ++ b ∷ []
new_group f p xs x b e = ap (λ l. p ++ l) (groups-last f 0 xs x ∙ ap (λ l. groups f 0 xs ++ l) e) ∙ sym (append_assoc p (groups f 0 xs) (b ∷ []))

pub length-last : {A : Type 0} (xs : List A) (x : A) → 0 + length (xs ++ x ∷ []) ≡ suc (length xs)
length-last [] x = refl
length-last (y ∷ xs) x = (let r = length-last xs x in omega arith)

pub mapped-last : {A : Type 0} (f : A → Bytes) (h : Bytes) (xs : List A) (x : A) (b : Bytes) → f x ≡ b → h ∷ map f (xs ++ x ∷ []) ≡ (h ∷ map f xs) ++ b ∷ []
mapped-last f h [] x b e = ap (λ l. h ∷ l ∷ []) e
mapped-last f h (y ∷ xs) x b e = ap (λ l. h ∷ l) (mapped-last f (f y) xs x b e)
