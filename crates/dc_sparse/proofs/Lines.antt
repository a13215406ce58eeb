-- What a node that comes or goes leaves of the links.
use Rattle.std.proofs.Common.{◌≡◌, ◌≢◌, ℕ, ◌+◌, ◌<◌, ◌≤◌, true, false, ◌==◌, nat_lt, Option, Some, None, refl, sym, ◌∙◌, ap, subst, arith, inl, inr, eq-eqb}
use Rattle.std.proofs.lemmas.Bool.{cases_Bool, ne_eqb, eqb-true, eqb-false, ltb-true, ltb-false}
use Rattle.dc_sparse.specs.Lines.{Lines, IsFrom, IsBefore, IsFirst, IsLast, AreLinked, AreApart, link_after, head_after}

-- all nodes but n stand in t as in s
pub record StandAs (s t : Lines) (n : ℕ) : Type 0 where
  pub live : (a : ℕ) → a ≢ n → t.live a ≡ s.live a
  pub line : (a : ℕ) → a ≢ n → t.line a ≡ s.line a
  pub index : (a : ℕ) → a ≢ n → t.index a ≡ s.index a

-- ---- first nodes, where all but one node stand as before

module _ (s t : Lines) (n : ℕ) (h : StandAs s t n) where
  pub from_new : (i k c : ℕ) → c ≢ n → IsFrom t i k c → IsFrom s i k c
  from_new i k c ne f = (let e = h.index c ne in record { live = sym (h.live c ne) ∙ f.live; line = sym (h.line c ne) ∙ f.line; index = omega arith })

  pub from_old : (i k c : ℕ) → c ≢ n → IsFrom s i k c → IsFrom t i k c
  from_old i k c ne f = (let e = h.index c ne in record { live = h.live c ne ∙ f.live; line = h.line c ne ∙ f.line; index = omega arith })

  other : (r : Lines) (i k c : ℕ) → (IsFrom r i k n → ⊥) → IsFrom r i k c → c ≢ n
  other r i k c not f e = not (subst (λ x. IsFrom r i k x) e f)

  -- n stands there neither before nor after
  pub first_same : (i k : ℕ) (o : Option ℕ) → (IsFrom s i k n → ⊥) → (IsFrom t i k n → ⊥) → IsFirst s i k o → IsFirst t i k o
  first_same i k None was not f = λ c g. f c (from_new i k c (other t i k c not g) g)
  first_same i k (Some b) was not f =
      let nb : b ≢ n = other s i k b was f.0 in
      let eb = h.index b nb in (
        from_old i k b nb f.0,
        λ c g.
            let nc : c ≢ n = other t i k c not g in
            let ec = h.index c nc in
            let l = f.1 c (from_new i k c nc g) in
            omega arith,
      )

  -- n comes or goes behind a node that stays
  pub first_before : (i k p : ℕ) (o : Option ℕ) → p ≢ n → IsFrom s i k p → (s.live n ≡ true → s.index p < s.index n) → (t.live n ≡ true → s.index p < t.index n) → IsFirst s i k o → IsFirst t i k o
  first_before i k p None np fp goes comes f = absurd (f p fp)
  first_before i k p (Some b) np fp goes comes f =
      let lb = f.1 p fp in
      let nb : b ≢ n = λ e. (let l = goes (ap s.live (sym e) ∙ f.0.live) in let q : s.index b ≡ s.index n = ap s.index e in omega arith) in
      let eb = h.index b nb in (
        from_old i k b nb f.0,
        λ c g. elim (cases_Bool (c == n)) [
          | inl e ↦ (let same : c ≡ n = eqb-true c n e in let q : t.index c ≡ t.index n = ap t.index same in let l = comes (ap t.live (sym same) ∙ g.live) in omega arith)
          | inr e ↦
              (let nc : c ≢ n = eqb-false c n e in
              let ec = h.index c nc in
              let l = f.1 c (from_new i k c nc g) in
              omega arith)
        ],
      )

-- ---- first and last nodes of a line

-- where the last node before k ends, the next one is the first from k on
pub first_behind : (s : Lines) (i k p : ℕ) (o : Option ℕ) → IsLast s i k (Some p) → IsFirst s i (s.index p + 1) o → IsFirst s i k o
first_behind s i k p None l f = λ c g. (let q = l.0.index in let w = g.index in f c (record { live = g.live; line = g.line; index = omega arith }))
first_behind s i k p (Some b) l f =
    let low = f.0.index in
    let lp = l.0.index in (
      record {
        live = f.0.live;
        line = f.0.line;
        index = elim (cases_Bool (nat_lt (s.index b) k)) [
          | inl e ↦ (let lt : s.index b < k = ltb-true (s.index b) k e in let w = l.1 b (record { live = f.0.live; line = f.0.line; index = lt }) in absurd (omega arith))
          | inr e ↦ ltb-false (s.index b) k e
        ];
      },
      λ c g. (let w = g.index in f.1 c (record { live = g.live; line = g.line; index = omega arith })),
    )

-- the head of a line without a node before k
pub first_ahead : (s : Lines) (i k : ℕ) (o : Option ℕ) → IsLast s i k None → IsFirst s i 0 o → IsFirst s i k o
first_ahead s i k None l f = λ c g. f c (record { live = g.live; line = g.line; index = omega arith })
first_ahead s i k (Some b) l f = (
  record {
    live = f.0.live;
    line = f.0.line;
    index = elim (cases_Bool (nat_lt (s.index b) k)) [
      | inl e ↦ absurd (l b (record { live = f.0.live; line = f.0.line; index = ltb-true (s.index b) k e }))
      | inr e ↦ ltb-false (s.index b) k e
    ];
  },
  λ c g. f.1 c (record { live = g.live; line = g.line; index = omega arith }),
)

-- an index without a node is passed
pub first_past : (s : Lines) (i k : ℕ) (o : Option ℕ) → ((c : ℕ) → s.live c ≡ true → s.line c ≡ i → s.index c ≡ k → ⊥) → IsFirst s i k o → IsFirst s i (k + 1) o
first_past s i k None vacant f = λ c g. (let w = g.index in f c (record { live = g.live; line = g.line; index = omega arith }))
first_past s i k (Some b) vacant f =
    let low = f.0.index in
    let ne : s.index b ≢ k = vacant b f.0.live f.0.line in (
      record { live = f.0.live; line = f.0.line; index = omega arith },
      λ c g. (let w = g.index in f.1 c (record { live = g.live; line = g.line; index = omega arith })),
    )

-- ---- a node comes: n stands in t in line i at index k, where no node stood, and is linked behind p

pub record IsInserted (s t : Lines) (head head' : ℕ → Option ℕ) (n i k : ℕ) (p b : Option ℕ) : Type 0 where
  pub others : StandAs s t n
  pub dead : s.live n ≡ false
  pub live : t.live n ≡ true
  pub line : t.line n ≡ i
  pub index : t.index n ≡ k
  pub next : t.next n ≡ b
  pub nexts : (a : ℕ) → a ≢ n → t.next a ≡ link_after p (Some n) a (s.next a)
  pub heads : (l : ℕ) → head' l ≡ head_after p i (Some n) l (head l)

module _ (s t : Lines) (lines : ℕ) (head head' : ℕ → Option ℕ) (n i k : ℕ) (p b : Option ℕ) (h : IsInserted s t head head' n i k p b)
    (apart : AreApart s) (vacant : (c : ℕ) → s.live c ≡ true → s.line c ≡ i → s.index c ≡ k → ⊥) (last : IsLast s i k p) (first : IsFirst s i k b) (linked : AreLinked s lines head) where
  not_old : (l c : ℕ) → IsFrom s l c n → ⊥
  not_old l c f = (let e = f.live in let d = h.dead in cc)

  not_line : (l c : ℕ) → l ≢ i → IsFrom t l c n → ⊥
  not_line l c ne f = ne (sym f.line ∙ h.line)

  not_before : (l c : ℕ) → k < c → IsFrom t l c n → ⊥
  not_before l c lt f = (let w = f.index in let e = h.index in omega arith)

  ne_of : (a : ℕ) → s.live a ≡ true → a ≢ n
  ne_of a la e = (let q : s.live a ≡ s.live n = ap s.live e in let d = h.dead in cc)

  -- n is the first from c on, where all nodes from there on that stood before stand behind it
  new_first : (c : ℕ) → c ≤ k → ((a : ℕ) → IsFrom s i c a → k ≤ s.index a) → IsFirst t i c (Some n)
  new_first c le all =
      let e = h.index in (
        record { live = h.live; line = h.line; index = omega arith },
        λ a g. elim (cases_Bool (a == n)) [
          | inl q ↦ (let same : t.index a ≡ t.index n = ap t.index (eqb-true a n q) in omega arith)
          | inr q ↦
              (let na : a ≢ n = eqb-false a n q in
              let ea = h.others.index a na in
              let w = all a (from_new s t n h.others i c a na g) in
              omega arith)
        ],
      )

  behind : (q a : ℕ) → IsLast s i k (Some q) → IsFrom s i (s.index q + 1) a → k ≤ s.index a
  behind q a l f = elim (cases_Bool (nat_lt (s.index a) k)) [
    | inl e ↦ (let w = f.index in let v = l.1 a (record { live = f.live; line = f.line; index = ltb-true (s.index a) k e }) in absurd (omega arith))
    | inr e ↦ ltb-false (s.index a) k e
  ]

  ahead : (a : ℕ) → IsLast s i k None → IsFrom s i 0 a → k ≤ s.index a
  ahead a l f = elim (cases_Bool (nat_lt (s.index a) k)) [
    | inl e ↦ absurd (l a (record { live = f.live; line = f.line; index = ltb-true (s.index a) k e }))
    | inr e ↦ ltb-false (s.index a) k e
  ]

  -- the next of a node in line i that stood before
  next_in : (q : Option ℕ) → IsLast s i k q → (a : ℕ) → s.live a ≡ true → s.line a ≡ i → IsFirst t i (s.index a + 1) (link_after q (Some n) a (s.next a))
  next_in None l a la e =
      let f : IsFirst s i (s.index a + 1) (s.next a) = subst (λ x. IsFirst s x (s.index a + 1) (s.next a)) e (linked.nexts a la) in
      let w = ahead a l (record { live = la; line = e; index = omega arith }) in
      let v : s.index a ≢ k = vacant a la e in
      first_same s t n h.others i (s.index a + 1) (s.next a) (not_old i (s.index a + 1)) (not_before i (s.index a + 1) (omega arith)) f
  next_in (Some q) l a la e =
      let f : IsFirst s i (s.index a + 1) (s.next a) = subst (λ x. IsFirst s x (s.index a + 1) (s.next a)) e (linked.nexts a la) in
      let lq = l.0.index in
      elim (cases_Bool (a == q)) [
        | inl x ↦ rw x (let same : a ≡ q = eqb-true a q x in let pq : s.index a ≡ s.index q = ap s.index same in
            new_first (s.index a + 1) (omega arith) (λ c g. behind q c l (record { live = g.live; line = g.line; index = (let w = g.index in omega arith) })))
        | inr x ↦ rw x (let ne : a ≢ q = eqb-false a q x in elim (cases_Bool (nat_lt (s.index a) k)) [
          | inl y ↦
              (let lt : s.index a < k = ltb-true (s.index a) k y in
              let le = l.1 a (record { live = la; line = e; index = lt }) in
              let np : s.index a ≢ s.index q = (λ z. ne (apart a q la l.0.live (e ∙ sym l.0.line) z)) in
              let pn = h.index in
              first_before s t n h.others i (s.index a + 1) q (s.next a) (ne_of q l.0.live) (record { live = l.0.live; line = l.0.line; index = omega arith }) (λ z. absurd (let d = h.dead in let r : ⊥ = cc in r)) (λ _. omega arith) f)
          | inr y ↦
              (let le : k ≤ s.index a = ltb-false (s.index a) k y in
              let v : s.index a ≢ k = vacant a la e in
              first_same s t n h.others i (s.index a + 1) (s.next a) (not_old i (s.index a + 1)) (not_before i (s.index a + 1) (omega arith)) f)
        ])
      ]

  -- the next of a node in another line
  next_out : (q : Option ℕ) → IsLast s i k q → (a : ℕ) → s.live a ≡ true → s.line a ≢ i → IsFirst t (s.line a) (s.index a + 1) (link_after q (Some n) a (s.next a))
  next_out None l a la ne = first_same s t n h.others (s.line a) (s.index a + 1) (s.next a) (not_old (s.line a) (s.index a + 1)) (not_line (s.line a) (s.index a + 1) ne) (linked.nexts a la)
  next_out (Some q) l a la ne =
      let na : a ≢ q = (λ e. ne (ap s.line e ∙ l.0.line)) in
      rw (ne_eqb a q na) (first_same s t n h.others (s.line a) (s.index a + 1) (s.next a) (not_old (s.line a) (s.index a + 1)) (not_line (s.line a) (s.index a + 1) ne) (linked.nexts a la))

  head_in : (q : Option ℕ) → IsLast s i k q → i < lines → IsFirst t i 0 (head_after q i (Some n) i (head i))
  head_in None l lt = rw (eq-eqb i i refl) (new_first 0 (omega arith) (λ c g. ahead c l g))
  head_in (Some q) l lt =
      let lq = l.0.index in
      let pn = h.index in
      first_before s t n h.others i 0 q (head i) (ne_of q l.0.live) (record { live = l.0.live; line = l.0.line; index = omega arith }) (λ z. absurd (let d = h.dead in let r : ⊥ = cc in r)) (λ _. omega arith) (linked.heads i lt)

  head_out : (q : Option ℕ) (l : ℕ) → l < lines → l ≢ i → IsFirst t l 0 (head_after q i (Some n) l (head l))
  head_out None l lt ne = rw (ne_eqb l i ne) (first_same s t n h.others l 0 (head l) (not_old l 0) (not_line l 0 ne) (linked.heads l lt))
  head_out (Some q) l lt ne = first_same s t n h.others l 0 (head l) (not_old l 0) (not_line l 0 ne) (linked.heads l lt)

  pub inserted : AreLinked t lines head'
  inserted = record {
    heads = λ l lt. rw (h.heads l) (elim (cases_Bool (l == i)) [
      | inl e ↦ (let same : i ≡ l = sym (eqb-true l i e) in subst (λ x. IsFirst t x 0 (head_after p i (Some n) x (head x))) same (head_in p last (let q : i ≡ l = same in omega arith)))
      | inr e ↦ head_out p l lt (eqb-false l i e)
    ]);
    nexts = λ a la. elim (cases_Bool (a == n)) [
      | inl e ↦
          (let same : a ≡ n = eqb-true a n e in
          let f : IsFirst t i (k + 1) b = first_same s t n h.others i (k + 1) b (not_old i (k + 1)) (not_before i (k + 1) (omega arith)) (first_past s i k b vacant first) in
          let g : IsFirst t (t.line n) (t.index n + 1) (t.next n) = rw (h.line, h.index, h.next) f in
          subst (λ x. IsFirst t (t.line x) (t.index x + 1) (t.next x)) (sym same) g)
      | inr e ↦
          (let na : a ≢ n = eqb-false a n e in
          let old : s.live a ≡ true = sym (h.others.live a na) ∙ la in
          rw (h.others.line a na, h.others.index a na, h.nexts a na) (elim (cases_Bool (s.line a == i)) [
            | inl q ↦ (let same : s.line a ≡ i = eqb-true (s.line a) i q in subst (λ x. IsFirst t x (s.index a + 1) (link_after p (Some n) a (s.next a))) (sym same) (next_in p last a old same))
            | inr q ↦ next_out p last a old (eqb-false (s.line a) i q)
          ]))
    ];
  }

-- ---- a node goes: n stood in s in line i at index k, linked behind p

pub record IsRemoved (s t : Lines) (head head' : ℕ → Option ℕ) (n i k : ℕ) (p : Option ℕ) : Type 0 where
  pub others : StandAs s t n
  pub live : s.live n ≡ true
  pub line : s.line n ≡ i
  pub index : s.index n ≡ k
  pub dead : t.live n ≡ false
  pub nexts : (a : ℕ) → a ≢ n → t.next a ≡ link_after p (s.next n) a (s.next a)
  pub heads : (l : ℕ) → head' l ≡ head_after p i (s.next n) l (head l)

module _ (s t : Lines) (lines : ℕ) (head head' : ℕ → Option ℕ) (n i k : ℕ) (p : Option ℕ) (h : IsRemoved s t head head' n i k p)
    (apart : AreApart s) (last : IsLast s i k p) (linked : AreLinked s lines head) where
  not_new : (l c : ℕ) → IsFrom t l c n → ⊥
  not_new l c f = (let e = f.live in let d = h.dead in cc)

  was_line : (l c : ℕ) → l ≢ i → IsFrom s l c n → ⊥
  was_line l c ne f = ne (sym f.line ∙ h.line)

  was_before : (l c : ℕ) → k < c → IsFrom s l c n → ⊥
  was_before l c lt f = (let w = f.index in let e = h.index in omega arith)

  -- what stood behind n
  rest : IsFirst s i (k + 1) (s.next n)
  rest = (let f : IsFirst s (s.line n) (s.index n + 1) (s.next n) = linked.nexts n h.live in rw (h.line, h.index) at f)

  -- it is the first from c on, where n was
  rest_first : (c : ℕ) → c ≤ k → ((a : ℕ) → IsFrom s i c a → k ≤ s.index a) → (o : Option ℕ) → IsFirst s i (k + 1) o → IsFirst t i c o
  rest_first c le all None f = λ a g.
      let na : a ≢ n = other s t n h.others t i c a (not_new i c) g in
      let g' : IsFrom s i c a = from_new s t n h.others i c a na g in
      let w = all a g' in
      let pn = h.index in
      let v : s.index a ≢ s.index n = (λ z. na (apart a n g'.live h.live (g'.line ∙ sym h.line) z)) in
      f a (record { live = g'.live; line = g'.line; index = omega arith })
  rest_first c le all (Some b) f =
      let nb : b ≢ n = other s t n h.others s i (k + 1) b (was_before i (k + 1) (omega arith)) f.0 in
      let fb = from_old s t n h.others i (k + 1) b nb f.0 in
      let lb = fb.index in
      let eb = h.others.index b nb in (
        record { live = fb.live; line = fb.line; index = omega arith },
        λ a g.
            let na : a ≢ n = other s t n h.others t i c a (not_new i c) g in
            let g' : IsFrom s i c a = from_new s t n h.others i c a na g in
            let w = all a g' in
            let pn = h.index in
            let ea = h.others.index a na in
            let v : s.index a ≢ s.index n = (λ z. na (apart a n g'.live h.live (g'.line ∙ sym h.line) z)) in
            let l = f.1 a (record { live = g'.live; line = g'.line; index = omega arith }) in
            omega arith,
      )

  stood_behind : (q a : ℕ) → IsLast s i k (Some q) → IsFrom s i (s.index q + 1) a → k ≤ s.index a
  stood_behind q a l f = elim (cases_Bool (nat_lt (s.index a) k)) [
    | inl e ↦ (let w = f.index in let v = l.1 a (record { live = f.live; line = f.line; index = ltb-true (s.index a) k e }) in absurd (omega arith))
    | inr e ↦ ltb-false (s.index a) k e
  ]

  stood_ahead : (a : ℕ) → IsLast s i k None → IsFrom s i 0 a → k ≤ s.index a
  stood_ahead a l f = elim (cases_Bool (nat_lt (s.index a) k)) [
    | inl e ↦ absurd (l a (record { live = f.live; line = f.line; index = ltb-true (s.index a) k e }))
    | inr e ↦ ltb-false (s.index a) k e
  ]

  before_n : (q : ℕ) → IsBefore s i k q → q ≢ n
  before_n q f e = (let w = f.index in let c = h.index in let v : s.index q ≡ s.index n = ap s.index e in omega arith)

  left_in : (q : Option ℕ) → IsLast s i k q → (a : ℕ) → a ≢ n → s.live a ≡ true → s.line a ≡ i → IsFirst t i (s.index a + 1) (link_after q (s.next n) a (s.next a))
  left_in None l a na la e =
      let f : IsFirst s i (s.index a + 1) (s.next a) = subst (λ x. IsFirst s x (s.index a + 1) (s.next a)) e (linked.nexts a la) in
      let w = stood_ahead a l (record { live = la; line = e; index = omega arith }) in
      let pn = h.index in
      let v : s.index a ≢ s.index n = (λ z. na (apart a n la h.live (e ∙ sym h.line) z)) in
      first_same s t n h.others i (s.index a + 1) (s.next a) (was_before i (s.index a + 1) (omega arith)) (not_new i (s.index a + 1)) f
  left_in (Some q) l a na la e =
      let f : IsFirst s i (s.index a + 1) (s.next a) = subst (λ x. IsFirst s x (s.index a + 1) (s.next a)) e (linked.nexts a la) in
      let lq = l.0.index in
      let pn = h.index in
      elim (cases_Bool (a == q)) [
        | inl x ↦ rw x (let same : a ≡ q = eqb-true a q x in let pq : s.index a ≡ s.index q = ap s.index same in
            rest_first (s.index a + 1) (omega arith) (λ c g. stood_behind q c l (record { live = g.live; line = g.line; index = (let w = g.index in omega arith) })) (s.next n) rest)
        | inr x ↦ rw x (let ne : a ≢ q = eqb-false a q x in elim (cases_Bool (nat_lt (s.index a) k)) [
          | inl y ↦
              (let lt : s.index a < k = ltb-true (s.index a) k y in
              let le = l.1 a (record { live = la; line = e; index = lt }) in
              let np : s.index a ≢ s.index q = (λ z. ne (apart a q la l.0.live (e ∙ sym l.0.line) z)) in
              first_before s t n h.others i (s.index a + 1) q (s.next a) (before_n q l.0) (record { live = l.0.live; line = l.0.line; index = omega arith }) (λ _. omega arith) (λ z. absurd (let d = h.dead in let r : ⊥ = cc in r)) f)
          | inr y ↦
              (let le : k ≤ s.index a = ltb-false (s.index a) k y in
              let v : s.index a ≢ s.index n = (λ z. na (apart a n la h.live (e ∙ sym h.line) z)) in
              first_same s t n h.others i (s.index a + 1) (s.next a) (was_before i (s.index a + 1) (omega arith)) (not_new i (s.index a + 1)) f)
        ])
      ]

  left_out : (q : Option ℕ) → IsLast s i k q → (a : ℕ) → s.live a ≡ true → s.line a ≢ i → IsFirst t (s.line a) (s.index a + 1) (link_after q (s.next n) a (s.next a))
  left_out None l a la ne = first_same s t n h.others (s.line a) (s.index a + 1) (s.next a) (was_line (s.line a) (s.index a + 1) ne) (not_new (s.line a) (s.index a + 1)) (linked.nexts a la)
  left_out (Some q) l a la ne =
      let nq : a ≢ q = (λ e. ne (ap s.line e ∙ l.0.line)) in
      rw (ne_eqb a q nq) (first_same s t n h.others (s.line a) (s.index a + 1) (s.next a) (was_line (s.line a) (s.index a + 1) ne) (not_new (s.line a) (s.index a + 1)) (linked.nexts a la))

  begin_in : (q : Option ℕ) → IsLast s i k q → i < lines → IsFirst t i 0 (head_after q i (s.next n) i (head i))
  begin_in None l lt = rw (eq-eqb i i refl) (rest_first 0 (omega arith) (λ c g. stood_ahead c l g) (s.next n) rest)
  begin_in (Some q) l lt =
      let lq = l.0.index in
      let pn = h.index in
      first_before s t n h.others i 0 q (head i) (before_n q l.0) (record { live = l.0.live; line = l.0.line; index = omega arith }) (λ _. omega arith) (λ z. absurd (let d = h.dead in let r : ⊥ = cc in r)) (linked.heads i lt)

  begin_out : (q : Option ℕ) (l : ℕ) → l < lines → l ≢ i → IsFirst t l 0 (head_after q i (s.next n) l (head l))
  begin_out None l lt ne = rw (ne_eqb l i ne) (first_same s t n h.others l 0 (head l) (was_line l 0 ne) (not_new l 0) (linked.heads l lt))
  begin_out (Some q) l lt ne = first_same s t n h.others l 0 (head l) (was_line l 0 ne) (not_new l 0) (linked.heads l lt)

  pub removed : AreLinked t lines head'
  removed = record {
    heads = λ l lt. rw (h.heads l) (elim (cases_Bool (l == i)) [
      | inl e ↦ (let same : i ≡ l = sym (eqb-true l i e) in subst (λ x. IsFirst t x 0 (head_after p i (s.next n) x (head x))) same (begin_in p last (let q : i ≡ l = same in omega arith)))
      | inr e ↦ begin_out p l lt (eqb-false l i e)
    ]);
    nexts = λ a la.
        let na : a ≢ n = (λ e. (let q : t.live a ≡ t.live n = ap t.live e in let d = h.dead in cc)) in
        let old : s.live a ≡ true = sym (h.others.live a na) ∙ la in
        rw (h.others.line a na, h.others.index a na, h.nexts a na) (elim (cases_Bool (s.line a == i)) [
          | inl q ↦ (let same : s.line a ≡ i = eqb-true (s.line a) i q in subst (λ x. IsFirst t x (s.index a + 1) (link_after p (s.next n) a (s.next a))) (sym same) (left_in p last a na old same))
          | inr q ↦ left_out p last a old (eqb-false (s.line a) i q)
        ]);
  }

-- ---- no two nodes at one index

pub apart_more : (s t : Lines) (n i k : ℕ) → StandAs s t n → t.live n ≡ true → t.line n ≡ i → t.index n ≡ k → ((c : ℕ) → s.live c ≡ true → s.line c ≡ i → s.index c ≡ k → ⊥) → AreApart s → AreApart t
apart_more s t n i k h live line index vacant apart a b la lb e f =
    let clash : (c : ℕ) → c ≢ n → t.live c ≡ true → t.line c ≡ t.line n → t.index c ≡ t.index n → ⊥ =
    (λ c nc lc ec fc. vacant c (sym (h.live c nc) ∙ lc) (sym (h.line c nc) ∙ ec ∙ line) (sym (h.index c nc) ∙ fc ∙ index)) in
    elim (cases_Bool (a == n)) [
      | inl x ↦ (let sa : a ≡ n = eqb-true a n x in elim (cases_Bool (b == n)) [
        | inl y ↦ sa ∙ sym (eqb-true b n y)
        | inr y ↦ absurd (clash b (eqb-false b n y) lb (sym e ∙ ap t.line sa) (sym f ∙ ap t.index sa))
      ])
      | inr x ↦ (let na : a ≢ n = eqb-false a n x in elim (cases_Bool (b == n)) [
        | inl y ↦ (let sb : b ≡ n = eqb-true b n y in absurd (clash a na la (e ∙ ap t.line sb) (f ∙ ap t.index sb)))
        | inr y ↦ (let nb : b ≢ n = eqb-false b n y in
            apart a b (sym (h.live a na) ∙ la) (sym (h.live b nb) ∙ lb) (sym (h.line a na) ∙ e ∙ h.line b nb) (sym (h.index a na) ∙ f ∙ h.index b nb))
      ])
    ]

pub apart_less : (s t : Lines) (n : ℕ) → StandAs s t n → t.live n ≡ false → AreApart s → AreApart t
apart_less s t n h dead apart a b la lb e f =
    let na : a ≢ n = (λ z. (let q : t.live a ≡ t.live n = ap t.live z in cc)) in
    let nb : b ≢ n = (λ z. (let q : t.live b ≡ t.live n = ap t.live z in cc)) in
    apart a b (sym (h.live a na) ∙ la) (sym (h.live b nb) ∙ lb) (sym (h.line a na) ∙ e ∙ h.line b nb) (sym (h.index a na) ∙ f ∙ h.index b nb)

-- ---- no node comes or goes

-- all nodes but n, which stands nowhere, are linked as before
module _ (s t : Lines) (n : ℕ) (h : StandAs s t n) (old : s.live n ≡ false) (new : t.live n ≡ false) where
  first_all : (i k : ℕ) (o : Option ℕ) → IsFirst s i k o → IsFirst t i k o
  first_all i k o f = first_same s t n h i k o (λ g. (let e = g.live in absurd (let r : ⊥ = cc in r))) (λ g. (let e = g.live in absurd (let r : ⊥ = cc in r))) f

  pub linked_all : (lines : ℕ) (head : ℕ → Option ℕ) → ((a : ℕ) → a ≢ n → t.next a ≡ s.next a) → AreLinked s lines head → AreLinked t lines head
  linked_all lines head next l = record {
    heads = λ i lt. first_all i 0 (head i) (l.heads i lt);
    nexts = λ a la.
        let ne : a ≢ n = (λ e. (let q : t.live a ≡ t.live n = ap t.live e in cc)) in
        rw (h.line a ne, h.index a ne, next a ne) (first_all (s.line a) (s.index a + 1) (s.next a) (l.nexts a (sym (h.live a ne) ∙ la)));
  }

pub record SameLines (s t : Lines) : Type 0 where
  pub live : (a : ℕ) → t.live a ≡ s.live a
  pub line : (a : ℕ) → t.line a ≡ s.line a
  pub index : (a : ℕ) → t.index a ≡ s.index a
  pub next : (a : ℕ) → t.next a ≡ s.next a

module _ (s t : Lines) (h : SameLines s t) where
  from_same : (i k c : ℕ) → IsFrom t i k c → IsFrom s i k c
  from_same i k c f = (let e = h.index c in record { live = sym (h.live c) ∙ f.live; line = sym (h.line c) ∙ f.line; index = omega arith })

  from_same_new : (i k c : ℕ) → IsFrom s i k c → IsFrom t i k c
  from_same_new i k c f = (let e = h.index c in record { live = h.live c ∙ f.live; line = h.line c ∙ f.line; index = omega arith })

  first_kept : (i k : ℕ) (o : Option ℕ) → IsFirst s i k o → IsFirst t i k o
  first_kept i k None f = λ c g. f c (from_same i k c g)
  first_kept i k (Some b) f = (from_same_new i k b f.0, λ c g. (let l = f.1 c (from_same i k c g) in let e = h.index b in let d = h.index c in omega arith))

  pub linked_same : (lines : ℕ) (head : ℕ → Option ℕ) → AreLinked s lines head → AreLinked t lines head
  linked_same lines head l = record {
    heads = λ i lt. first_kept i 0 (head i) (l.heads i lt);
    nexts = λ a la. rw (h.line a, h.index a, h.next a) (first_kept (s.line a) (s.index a + 1) (s.next a) (l.nexts a (sym (h.live a) ∙ la)));
  }

  pub apart_same : AreApart s → AreApart t
  apart_same p a b la lb e f = p a b (sym (h.live a) ∙ la) (sym (h.live b) ∙ lb) (sym (h.line a) ∙ e ∙ h.line b) (sym (h.index a) ∙ f ∙ h.index b)
