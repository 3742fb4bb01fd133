-- Raised sums, node by node.
use Rattle.std.proofs.Common.{◌≡◌, ◌≢◌, ℕ, zero, suc, ◌+◌, ◌<◌, max, Bool, true, false, List, [], ◌∷◌, length, get_or}
use Rattle.std.proofs.Common.{set, replicate, None, refl, sym, ap, ap₂, ◌∙◌, subst, arith}
use Rattle.std.specs.Prelude.{◌==◌, nat_lt, if◌then◌else◌, Result, Ok, Err, IfOk, OnOk}
use Rattle.std.proofs.lemmas.Bool.{ltb-true, ltb-false, eqb-true, eqb-false}
use Rattle.std.proofs.lemmas.List.{get_or-set_same, get_or-set_other, length-set, length-replicate}
use Rattle.sq_ir.specs.Written.{at_root}
use Rattle.sq_ir.specs.declared.term.Term.{Term}
use Rattle.sq_ir.specs.declared.plan.Draft.{Draft}
use Rattle.sq_ir.specs.declared.plan.PlanNode.{PlanNode}
use Rattle.sq_nests.specs.Nests.{End, Both, Open}
use Rattle.sq_nests.specs.Stacks.{capped}
use Rattle.sq_nests.specs.Drafts.{whole, Nothing}
use Rattle.sq_nests.specs.Weights.{weigh}
use Rattle.sq_nests.specs.Needs.{IsCounted, need, AreSums}
use Rattle.sq_sums.specs.declared.walk.Ground.{Ground}
use Rattle.sq_sums.specs.Tops.{Stand, Top, Tops, tops, highest, held_at, raise_to, raise_by}
use Rattle.sq_sums.specs.Grounds.{tops_on}
use Rattle.sq_sums.specs.Sites.{Site}
use Rattle.sq_sums.specs.Sums.{raise_all, walk_at, body_worth, own_worth, site_worth, worth_all, whole_tops, Raises}
use Rattle.sq_sums.specs.Sums.{AreWorth}
use Rattle.sq_sums.proofs.TopForms.{top_within}
use Rattle.sq_sums.proofs.Agreeing.{are_same}
use Rattle.sq_sums.proofs.Marking.{worth_max, worth_same}

pub raises_none : (s : List ℕ) → Raises (λ m. 0) s s
raises_none s = record { length_ = refl; each = λ m l. none (get_or s m 0) }
  where
    none : (a : ℕ) → a ≡ max a 0
    none a = omega arith

pub raises_two : (f g : ℕ → ℕ) (a b c : List ℕ) → Raises f a b → Raises g b c → Raises (λ m. max (f m) (g m)) a c
raises_two f g a b c p q = record {
  length_ = q.length_ ∙ p.length_;
  each = λ m l.
      let n = p.length_ in
      both (get_or a m 0) (get_or b m 0) (get_or c m 0) (f m) (g m) (p.each m l) (q.each m (omega (arith, n, l)));
}
  where
    both : (a b c x y : ℕ) → b ≡ max a x → c ≡ max b y → c ≡ max a (max x y)
    both a b c x y e g = omega (arith, e, g)

pub raises_same : (f g : ℕ → ℕ) (a b : List ℕ) → ((m : ℕ) → f m ≡ g m) → Raises f a b → Raises g a b
raises_same f g a b e p = record { length_ = p.length_; each = λ m l. p.each m l ∙ ap (max (get_or a m 0)) (e m) }

raise_one : (t : Top) (s : List ℕ) → Raises (λ m. held_at m t) s (raise_to t s)
raise_one t s = record { length_ = long (nat_lt (get_or s t.node 0) t.held); each = λ m l. by m l (t.node == m) refl }
  where
    long : (v : Bool) → length (if v then set s t.node t.held else s) ≡ length s
    long true = length-set s t.node t.held
    long false = refl

    none : (a : ℕ) → a ≡ max a 0
    none a = omega arith

    other : (m : ℕ) (v : Bool) → m ≢ t.node → get_or (if v then set s t.node t.held else s) m 0 ≡ get_or s m 0
    other m true n = get_or-set_other s t.node m t.held 0 n
    other m false n = refl

    this : (v : Bool) → t.node < length s → nat_lt (get_or s t.node 0) t.held ≡ v
        → get_or (if v then set s t.node t.held else s) t.node 0 ≡ max (get_or s t.node 0) t.held
    this true l e = let z = ltb-true (get_or s t.node 0) t.held e in get_or-set_same s t.node t.held 0 l
        ∙ omega (arith, z)
    this false l e = let z = ltb-false (get_or s t.node 0) t.held e in omega (arith, z)

    by : (m : ℕ) → m < length s → (v : Bool) → (t.node == m) ≡ v → get_or (raise_to t s) m 0
        ≡ max (get_or s m 0) (if v then t.held else 0)
    by m l true e =
        let z = eqb-true t.node m e in
        subst (λ k. get_or (raise_to t s) k 0 ≡ max (get_or s k 0) t.held) z
        (this (nat_lt (get_or s t.node 0) t.held) (subst (λ k. k < length s) (sym z) l) refl)
    by m l false e = let z = eqb-false t.node m e in other m (nat_lt (get_or s t.node 0) t.held) (λ h. z (sym h))
        ∙ none (get_or s m 0)

pub tops_raise : (x : Tops) (s : List ℕ) → Raises (λ m. highest m x) s (raise_by x s)
tops_raise End s = raises_none s
tops_raise (Both a b) s = raises_two (λ m. highest m a) (λ m. highest m b) s (raise_by a s) (raise_by b (raise_by a s))
    (tops_raise a s) (tops_raise b (raise_by a s))
tops_raise (Open t a) s = raises_two (λ m. held_at m t) (λ m. highest m a) s (raise_to t s) (raise_by a (raise_to t s))
    (raise_one t s) (tops_raise a (raise_to t s))

pub all_raise : (ns : List ℕ) (h : ℕ) (s : List ℕ)
    → Raises (λ m. worth_all (λ n. if n == m then h else 0) ns) s (raise_all ns h s)
all_raise [] h s = raises_none s
all_raise (n ∷ ns) h s =
    let t : Top = record { node = n; held = h } in
    raises_two (λ m. held_at m t) (λ m. worth_all (λ n. if n == m then h else 0) ns) s (raise_to t s)
    (raise_all ns h (raise_to t s)) (raise_one t s) (all_raise ns h (raise_to t s))

pub walked_raise : (g : Ground) (body : Term) (top : ℕ) (at s : List ℕ)
    → Raises (λ m. worth_all (body_worth g m body top) at) s (walk_at g body top at s)
walked_raise g body top [] s = raises_none s
walked_raise g body top (n ∷ at) s =
    let x = tops_on g body (record { turns = []; node = n; held = top }) in
    raises_two (λ m. highest m x) (λ m. worth_all (body_worth g m body top) at) s (raise_by x s)
    (walk_at g body top at (raise_by x s)) (tops_raise x s) (walked_raise g body top at (raise_by x s))

-- ---- a scope

no_worth : (at : List ℕ) → worth_all (λ n. 0) at ≡ 0
no_worth [] = refl
no_worth (n ∷ at) = let e = no_worth at in omega (arith, e)

-- with its body, gone through on its own
pub own_site : (g : Ground) (s : Site) (at a b c : List ℕ) → s.own ≡ true → b ≡ raise_all at s.top a
    → Raises (λ m. worth_all (body_worth g m s.body s.top) at) b c → Raises (λ m. worth_all (site_worth g m s) at) a c
own_site g s at a b c o e r =
    raises_same (λ m. max (worth_all (λ n. if n == m then s.top else 0) at)
    (worth_all (body_worth g m s.body s.top) at)) (λ m. worth_all (site_worth g m s) at) a c
    (λ m. ap (max (worth_all (λ n. if n == m then s.top else 0) at))
    (worth_same (body_worth g m s.body s.top) (own_worth g m s) at (λ n. is (body_worth g m s.body s.top n) s.own o))
    ∙ sym (worth_max (λ n. if n == m then s.top else 0) (own_worth g m s) at))
    (raises_two (λ m. worth_all (λ n. if n == m then s.top else 0) at) (λ m. worth_all (body_worth g m s.body s.top) at)
    a b c
    (subst (Raises (λ m. worth_all (λ n. if n == m then s.top else 0) at) a) (sym e) (all_raise at s.top a)) r)
  where
    is : (x : ℕ) (v : Bool) → v ≡ true → x ≡ (if v then x else 0)
    is x true h = refl
    is x false h = absurd (let z = h in cc)

-- without it
pub marked_site : (g : Ground) (s : Site) (at a b : List ℕ) → s.own ≡ false → b ≡ raise_all at s.top a
    → Raises (λ m. worth_all (site_worth g m s) at) a b
marked_site g s at a b o e =
    raises_same (λ m. worth_all (λ n. if n == m then s.top else 0) at) (λ m. worth_all (site_worth g m s) at) a b
    (λ m. worth_same (λ n. if n == m then s.top else 0) (site_worth g m s) at
    (λ n. is (if n == m then s.top else 0) (body_worth g m s.body s.top n) s.own o))
    (subst (Raises (λ m. worth_all (λ n. if n == m then s.top else 0) at) a) (sym e) (all_raise at s.top a))
  where
    is : (x y : ℕ) (v : Bool) → v ≡ false → x ≡ max x (if v then y else 0)
    is x y false h = omega arith
    is x y true h = absurd (let z = h in cc)

-- ---- a draft

zero_at : (count n : ℕ) → ◌≡◌ {A = ℕ} (get_or (replicate count 0) n 0) 0
zero_at zero n = refl
zero_at (suc k) zero = refl
zero_at (suc k) (suc n) = zero_at k n

first_top : (w : ℕ) → capped (0 + capped w) ≡ capped w
unfolding capped
first_top w = omega arith

pub are_worth : (d : Draft) (nodes : List PlanNode) (once : Bool) (w : List ℕ → ℕ) (f : ℕ → ℕ) (s : Site)
    (zeros sums : List ℕ) → zeros ≡ replicate (length nodes) 0 → w ≡ weigh d.buffers once
    → s ≡ record { body = d.term; top = capped (weigh d.buffers once d.entry); own = true }
    → ((m : ℕ) → f m ≡ max (if 0 == m then s.top else 0)
    (if s.own then highest m (tops nodes w s.body (record { turns = []; node = 0; held = s.top })) else 0))
    → Raises f zeros sums → AreWorth d nodes once sums
are_worth d nodes once w f s zeros sums z o e is r = record {
  length_ = r.length_ ∙ ap length z ∙ length-replicate (length nodes) 0;
  each = λ m l.
      r.each m (subst (λ k. m < length k) (sym z) (subst (λ k. m < k) (sym (length-replicate (length nodes) 0)) l))
      ∙ ap₂ max (ap (λ k. get_or k m 0) z ∙ zero_at (length nodes) m) (is m
      ∙ ap (λ (s : Site). max (if 0 == m then s.top else 0)
      (if s.own then highest m (tops nodes w s.body (record { turns = []; node = 0; held = s.top })) else 0)) e)
      ∙ alone (max (if 0 == m then top else 0)
      (highest m (tops nodes w d.term (record { turns = []; node = 0; held = top })))) ∙ here m;
}
  where
    top : ℕ
    top = capped (weigh d.buffers once d.entry)

    alone : (a : ℕ) → max 0 a ≡ a
    alone a = omega arith

    here : (m : ℕ) → max (if 0 == m then capped (weigh d.buffers once d.entry) else 0)
        (highest m (tops nodes w d.term
        (record { turns = []; node = 0; held = capped (weigh d.buffers once d.entry) })))
        ≡ highest m (whole_tops d nodes once)
    here m =
        ap (λ v. max (if 0 == m then capped (weigh d.buffers once d.entry) else 0)
        (highest m (tops nodes v d.term
        (record { turns = []; node = 0; held = capped (weigh d.buffers once d.entry) })))) o
        ∙ ap (λ h. max (if 0 == m then h else 0)
        (highest m (tops nodes (weigh d.buffers once) d.term (record { turns = []; node = 0; held = h }))))
        (sym (first_top (weigh d.buffers once d.entry)))
        ∙ sym (ap (λ (f : Stand → Tops). highest m (f (record { turns = []; node = 0; held = 0 })))
        (top_within nodes (weigh d.buffers once) None d.entry d.term))

at_zero : (m s x : ℕ) → capped ((if 0 == m then 0 else 0) + s) ≡ max (if 0 == m then 0 else 0) x → x ≡ capped s
at_zero m s x = by (0 == m)
  where
    none : capped (0 + s) ≡ max 0 x → x ≡ capped s
    none e = sym (e ∙ plain x) ∙ ap capped (more s)
      where
        plain : (a : ℕ) → max 0 a ≡ a
        plain a = omega arith

        more : (a : ℕ) → 0 + a ≡ a
        more a = omega arith

    by : (v : Bool) → capped ((if v then 0 else 0) + s) ≡ max (if v then 0 else 0) x → x ≡ capped s
    by true = none
    by false = none

capped_zero : 0 ≡ capped 0
unfolding capped
capped_zero = refl

pub are_sums : (d : Draft) (nodes : List PlanNode) (once : Bool) (sums : List ℕ) → AreWorth d nodes once sums
    → IsCounted d nodes → AreSums d nodes once sums
are_sums d nodes once sums a c = record {
  length_ = a.length_;
  each = λ m l. a.each m l ∙ at_zero m (need d nodes once m) (highest m (whole_tops d nodes once))
      (are_same d.buffers nodes (λ b. 0) c.machine Nothing (weigh d.buffers once) refl m (whole d) at_root
      (record { turns = []; node = 0; held = 0 }) 0 [] c.term
      (record { turns = refl; here = refl; held = capped_zero }));
}

pub counted_sums : {E : Type 0} (d : Draft) (nodes given : List PlanNode) (once : Bool) (r : Result (List ℕ) E) → given
    ≡ nodes → IfOk r (AreWorth d given once) → IfOk r (λ sums. IsCounted d nodes → AreSums d nodes once sums)
counted_sums d nodes given once (Ok sums) e a
    = λ c. are_sums d nodes once sums (subst (λ l. AreWorth d l once sums) e a) c
counted_sums d nodes given once (Err u) e a = a

pub root_raises : {E : Type 0} (f : ℕ → ℕ → ℕ) (old new : List ℕ) (r : Result Unit E)
    → OnOk r (Raises (λ m. worth_all (f m) (0 ∷ [])) old new) → OnOk r (Raises (λ m. f m 0) old new)
root_raises f old new (Ok u) p = raises_same (λ m. worth_all (f m) (0 ∷ [])) (λ m. f m 0) old new (λ m. alone (f m 0)) p
  where
    alone : (a : ℕ) → max a 0 ≡ a
    alone a = omega arith
root_raises f old new (Err u) p = p

pub long_sums : {E : Type 0} (d : Draft) (nodes given : List PlanNode) (once : Bool) (r : Result (List ℕ) E) → given
    ≡ nodes → IfOk r (AreWorth d given once) → IfOk r (λ sums. length sums ≡ length nodes)
long_sums d nodes given once (Ok sums) e a = a.length_ ∙ ap length e
long_sums d nodes given once (Err u) e a = a
