-- What holds at each stage that some lines lead to.
use Rattle.std.specs.Prelude.{◌≡◌, ℕ, suc, ◌≤◌, List, length, Option, Some, None}
use Rattle.std.specs.List.{AllByRecursion}
use Rattle.dc_frac.specs.Fits.{IsSmall}
use Rattle.dc_affine.specs.declared.atom.Atom.{Atom}
use Rattle.dc_cert.specs.declared.sparse.Sparse.{Sparse}
use Rattle.dc_cert.specs.declared.certificate.EdgeCert.{EdgeCert}
use Rattle.dc_cert.specs.declared.certificate.SideCert.{SideCert}
use Rattle.dc_cert.specs.Vectors.{IsVector}
use Rattle.dc_cert.specs.Ranges.{IsShown, AreKeeps, AreAtoms, IsEdge, IsSide, HasCases, IsCertificate}
use Rattle.dc_cert.specs.declared.certificate.Claim.{Claim}
use Rattle.dc_cert.specs.declared.certificate.Claim.TheVariants as C
use Rattle.dc_certtext.specs.declared.stage.Head.{Head}
use Rattle.dc_certtext.specs.declared.stage.Found.{Found}
use Rattle.dc_certtext.specs.declared.stage.Found.TheVariants as F
use Rattle.dc_certtext.specs.declared.stage.Stage.{Stage}
use Rattle.dc_certtext.specs.declared.stage.Stage.TheVariants.{Start, Whole, Version, Sizes, Cases, Heads, Opened, Locations, Entries, Edges, Between, Closed, Main, End, Done}

abbrev pub IsClaim : Claim → Type 0
IsClaim (C.Threshold t) = IsSmall t.den
IsClaim C.Nothing = Unit {0}
IsClaim C.Vacuous = Unit {0}

pub record IsHead (h : Head) : Type 0 where
  pub claim : IsClaim h.claim
  pub cases : HasCases h.version h.cases
  pub degree : h.degree ≤ 3
  pub some_products : 1 ≤ h.products
  pub few_products : h.products ≤ 3
  pub when : AllByRecursion IsShown h.when
  pub few : length h.when ≤ h.cases

-- all cases are there
pub record IsFull (h : Head) : Type 0 where
  pub parts : IsHead h
  pub full : length h.when ≡ h.cases

abbrev pub IsNew : ℕ → Option SideCert → Type 0
IsNew cases None = Unit {0}
IsNew cases (Some s) = IsSide cases s

-- the locations that are there, the last one open
pub record AreLocations (done : List (List Atom)) (last : List Atom) : Type 0 where
  pub few : suc (length done) ≤ 128
  pub before : AllByRecursion AreAtoms done
  pub last_one : AreAtoms last

pub record AreFamilies (fam : List (List Atom)) : Type 0 where
  pub some : 1 ≤ length fam
  pub few : length fam ≤ 128
  pub all : AllByRecursion AreAtoms fam

pub record AreEntries (cases : ℕ) (done : List (List Sparse)) (last : List Sparse) : Type 0 where
  pub few : suc (length done) ≤ cases
  pub before : AllByRecursion AreKeeps done
  pub last_one : AreKeeps last

pub record AreAllEntries (cases : ℕ) (ents : List (List Sparse)) : Type 0 where
  pub one_each : length ents ≡ cases
  pub all : AllByRecursion AreKeeps ents

pub record AreEdges (done : List EdgeCert) (e : EdgeCert) : Type 0 where
  pub few : suc (length done) ≤ 512
  pub before : AllByRecursion IsEdge done
  pub last_one : IsEdge e

abbrev pub IsFound : Found → Type 0
IsFound (F.Threshold t) = Unit {0}
IsFound (F.ThresholdUnknown t u) = IsVector u
IsFound (F.ThresholdLambda t u l) = IsVector u × IsVector l
IsFound F.Nothing = Unit {0}
IsFound F.Vacuous = Unit {0}
IsFound (F.VacuousUnknown u) = IsVector u
IsFound (F.VacuousLambda u l) = IsVector u × IsVector l
IsFound (F.VacuousRay u l r) = IsVector u × IsVector l × IsVector r

-- the claim of the vectors that are read
abbrev pub claimed : Found → Claim
claimed (F.Threshold t) = C.Threshold t
claimed (F.ThresholdUnknown t u) = C.Threshold t
claimed (F.ThresholdLambda t u l) = C.Threshold t
claimed F.Nothing = C.Nothing
claimed F.Vacuous = C.Vacuous
claimed (F.VacuousUnknown u) = C.Vacuous
claimed (F.VacuousLambda u l) = C.Vacuous
claimed (F.VacuousRay u l r) = C.Vacuous

abbrev pub Valid : Stage → Type 0
Valid Start = Unit {0}
Valid (Whole t) = IsSmall t.den
Valid (Version c) = IsClaim c
Valid (Sizes c v) = IsClaim c × (1 ≤ v) × (v ≤ 2)
Valid (Cases c d k) = IsClaim c × (d ≤ 3) × (1 ≤ k) × (k ≤ 3)
Valid (Heads h) = IsHead h
Valid (Opened f) = IsFull f.head × IsNew f.head.cases f.new
Valid (Locations f done last) = IsFull f.head × IsNew f.head.cases f.new × AreLocations done last
Valid (Entries f fam done last) = IsFull f.head × IsNew f.head.cases f.new × AreFamilies fam × AreEntries f.head.cases done last
Valid (Edges f fam ents done live last) = IsFull f.head × IsNew f.head.cases f.new × AreFamilies fam × AreAllEntries f.head.cases ents × AreEdges done (record { live = live; keeps = last })
Valid (Between h n) = IsFull h × IsSide h.cases n
Valid (Closed h n o) = IsFull h × IsSide h.cases n × IsSide h.cases o
Valid (Main h n o found) = IsFull h × IsSide h.cases n × IsSide h.cases o × IsFound found × (h.claim ≡ claimed found)
Valid (End c) = IsCertificate c
Valid (Done c) = IsCertificate c
