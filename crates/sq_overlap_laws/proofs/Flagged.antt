-- Flags that are set, and nodes that are marked, stay so.
use Rattle.std.proofs.Common.{◌≡◌, ℕ, zero, suc, ◌+◌, ◌*◌, ◌<◌, Bool, true, false, List, []}
use Rattle.std.proofs.Common.{◌∷◌, length, replicate, get_or, slice_get, slice_set, Some, refl, sym, ap, subst, ◌∙◌}
use Rattle.std.proofs.Common.{arith, if◌then◌else◌}
use Rattle.std.proofs.lemmas.List.{length-set, length-replicate}
use Rattle.sq_machfile.specs.declared.node.Node.{Node}
use Rattle.sq_pass_laws.specs.Pipe.Runs.{noted, has_flag, is_marked, mark_children, mark_below, unmarked}

-- ---- a flag

pub set_keeps : (xs : List Bool) (i j : ℕ) → get_or xs j false ≡ true → get_or (slice_set xs i true) j false ≡ true
set_keeps [] i j h = h
set_keeps (x ∷ xs) zero zero h = refl
set_keeps (x ∷ xs) zero (suc j) h = h
set_keeps (x ∷ xs) (suc i) zero h = h
set_keeps (x ∷ xs) (suc i) (suc j) h = set_keeps xs i j h

pub set_sets : (xs : List Bool) (i : ℕ) → i < length xs → get_or (slice_set xs i true) i false ≡ true
set_sets [] i h = absurd (omega (arith, h))
set_sets (x ∷ xs) zero h = refl
set_sets (x ∷ xs) (suc i) h = set_sets xs i (omega (arith, h))

-- ---- flags that calls set

pub noted_keeps : (children : ℕ) (ps : List (ℕ × ℕ)) (flags : List Bool) (j : ℕ) → get_or flags j false ≡ true
    → get_or (noted children ps flags) j false ≡ true
noted_keeps children [] flags j h = h
noted_keeps children (p ∷ ps) flags j h =
    let i = p.0 * children + p.1 in
    noted_keeps children ps (slice_set flags i true) j (set_keeps flags i j h)

pub noted_sets : (children : ℕ) (ps : List (ℕ × ℕ)) (flags : List Bool) (i form child : ℕ)
    → slice_get ps i ≡ Some (form, child) → form * children + child < length flags
    → get_or (noted children ps flags) (form * children + child) false ≡ true
noted_sets children [] flags i form child e less = absurd (cc e)
noted_sets children (p ∷ ps) flags zero form child e less =
    let same : p ≡ (form, child) = cc e in
    noted_keeps children ps (slice_set flags (p.0 * children + p.1) true) (form * children + child)
    (subst (λ (q : ℕ × ℕ). get_or (slice_set flags (q.0 * children + q.1) true) (form * children + child) false ≡ true)
    (sym same) (set_sets flags (form * children + child) less))
noted_sets children (p ∷ ps) flags (suc i) form child e less =
    noted_sets children ps (slice_set flags (p.0 * children + p.1) true) i form child e
    (subst (λ (n : ℕ). form * children + child < n) (sym (length-set flags (p.0 * children + p.1) true)) less)

-- each form has as many flags as there are children
flag_within : (forms children form child : ℕ) → form < forms → child < children
    → form * children + child < forms * children
flag_within zero children form child less few = absurd (omega (arith, less))
flag_within (suc forms) children zero child less few = omega (arith, few)
flag_within (suc forms) children (suc form) child less few =
    let h = flag_within forms children form child (omega (arith, less)) few in omega (arith, h)

pub flag_is_set : (forms children : ℕ) (ps : List (ℕ × ℕ)) (i form child : ℕ) → slice_get ps i ≡ Some (form, child)
    → form < forms → child < children
    → has_flag (noted children ps (replicate (forms * children) false)) children form child ≡ true
flag_is_set forms children ps i form child e less few =
    noted_sets children ps (replicate (forms * children) false) i form child e
    (subst (λ (n : ℕ). form * children + child < n) (sym (length-replicate (forms * children) false))
    (flag_within forms children form child less few))

-- ---- a node of the children

if_keeps : (b : Bool) (marks : List Bool) (i j : ℕ) → is_marked marks j ≡ true
    → is_marked (if b then slice_set marks i true else marks) j ≡ true
if_keeps true marks i j h = set_keeps marks i j h
if_keeps false marks i j h = h

if_long : (b : Bool) (marks : List Bool) (i : ℕ)
    → length (if b then slice_set marks i true else marks) ≡ length marks
if_long true marks i = length-set marks i true
if_long false marks i = refl

module _ (flags : List Bool) (children form first : ℕ) where
  children_long : (n c : ℕ) (marks : List Bool)
      → length (mark_children flags children form first n c marks) ≡ length marks
  children_long zero c marks = refl
  children_long (suc n) c marks =
      let b = has_flag flags children form c in
      children_long n (c + 1) (if b then slice_set marks (first + c) true else marks) ∙ if_long b marks (first + c)

  children_keep : (n c : ℕ) (marks : List Bool) (j : ℕ) → is_marked marks j ≡ true
      → is_marked (mark_children flags children form first n c marks) j ≡ true
  children_keep zero c marks j h = h
  children_keep (suc n) c marks j h =
      let b = has_flag flags children form c in
      children_keep n (c + 1) (if b then slice_set marks (first + c) true else marks) j
      (if_keeps b marks (first + c) j h)

  child_marked : (n c t : ℕ) (marks : List Bool) → t < n → has_flag flags children form (c + t) ≡ true
      → first + (c + t) < length marks
      → is_marked (mark_children flags children form first n c marks) (first + (c + t)) ≡ true
  child_marked zero c t marks less flag there = absurd (omega (arith, less))
  child_marked (suc n) c zero marks less flag there =
      let z : c + 0 ≡ c = omega arith in
      let b = has_flag flags children form c in
      let set : b ≡ true = ap (has_flag flags children form) (sym z) ∙ flag in
      subst (λ (d : ℕ). is_marked (mark_children flags children form first (suc n) c marks) (first + d) ≡ true) (sym z)
      (children_keep n (c + 1) (if b then slice_set marks (first + c) true else marks) (first + c)
      (subst (λ (v : Bool). is_marked (if v then slice_set marks (first + c) true else marks) (first + c) ≡ true)
      (sym set) (set_sets marks (first + c) (omega (arith, there)))))
  child_marked (suc n) c (suc t) marks less flag there =
      let z : c + suc t ≡ c + 1 + t = omega arith in
      let b = has_flag flags children form c in
      let next = if b then slice_set marks (first + c) true else marks in
      let long : length next ≡ length marks = if_long b marks (first + c) in
      subst (λ (d : ℕ). is_marked (mark_children flags children form first n (c + 1) next) (first + d) ≡ true) (sym z)
      (child_marked n (c + 1) t next (omega (arith, less)) (ap (has_flag flags children form) (sym z) ∙ flag)
      (omega (arith, there, long)))

-- ---- children of marked nodes

module _ (flags : ℕ → List Bool) (form : ℕ) (at : List Bool) where
  abbrev stepped : Bool → Node → List Bool → List Bool
  stepped b node marks =
      if b then mark_children (flags node.children) node.children form node.first_child node.children 0 marks else marks

  step_keeps : (b : Bool) (node : Node) (marks : List Bool) (j : ℕ) → is_marked marks j ≡ true
      → is_marked (stepped b node marks) j ≡ true
  step_keeps true node marks j h =
      children_keep (flags node.children) node.children form node.first_child node.children 0 marks j h
  step_keeps false node marks j h = h

  step_long : (b : Bool) (node : Node) (marks : List Bool) → length (stepped b node marks) ≡ length marks
  step_long true node marks =
      children_long (flags node.children) node.children form node.first_child node.children 0 marks
  step_long false node marks = refl

  first_marked : (node : Node) (c : ℕ) (marks : List Bool) → c < node.children
      → has_flag (flags node.children) node.children form c ≡ true → node.first_child + c < length marks
      → is_marked (stepped true node marks) (node.first_child + c) ≡ true
  first_marked node c marks few flag there =
      let z : 0 + c ≡ c = omega arith in
      subst (λ (d : ℕ). has_flag (flags node.children) node.children form d ≡ true
      → node.first_child + d < length marks → is_marked (stepped true node marks) (node.first_child + d) ≡ true) z
      (child_marked (flags node.children) node.children form node.first_child node.children 0 c marks few) flag there

  below_keep : (n : ℕ) (nodes : List Node) (marks : List Bool) (j : ℕ) → is_marked marks j ≡ true
      → is_marked (mark_below flags form at n nodes marks) j ≡ true
  below_keep n [] marks j h = h
  below_keep n (node ∷ nodes) marks j h =
      below_keep (n + 1) nodes (stepped (is_marked at n) node marks) j (step_keeps (is_marked at n) node marks j h)

  pub below_marked : (n : ℕ) (nodes : List Node) (marks : List Bool) (i : ℕ) (node : Node) (c : ℕ)
      → slice_get nodes i ≡ Some node → is_marked at (n + i) ≡ true → c < node.children
      → has_flag (flags node.children) node.children form c ≡ true → node.first_child + c < length marks
      → is_marked (mark_below flags form at n nodes marks) (node.first_child + c) ≡ true
  below_marked n [] marks i node c e marked few flag there = absurd (cc e)
  below_marked n (m ∷ nodes) marks zero node c e marked few flag there =
      let same : m ≡ node = cc e in
      let z : n + 0 ≡ n = omega arith in
      let is : is_marked at n ≡ true = ap (is_marked at) (sym z) ∙ marked in
      below_keep (n + 1) nodes (stepped (is_marked at n) m marks) (node.first_child + c)
      (subst (λ (b : Bool). is_marked (stepped b m marks) (node.first_child + c) ≡ true) (sym is)
      (subst (λ (q : Node). is_marked (stepped true q marks) (node.first_child + c) ≡ true) (sym same)
      (first_marked node c marks few flag there)))
  below_marked n (m ∷ nodes) marks (suc i) node c e marked few flag there =
      let z : n + suc i ≡ n + 1 + i = omega arith in
      let next = stepped (is_marked at n) m marks in
      let long : length next ≡ length marks = step_long (is_marked at n) m marks in
      below_marked (n + 1) nodes next i node c e (ap (is_marked at) (sym z) ∙ marked) few flag
      (omega (arith, there, long))

pub unmarked_long : (nodes : List Node) → length (unmarked nodes) ≡ length nodes
unmarked_long nodes = length-replicate (length nodes) false
