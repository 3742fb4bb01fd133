-- What is sound of expressions, parameters and declarations doesn't depend on their places.
use Rattle.std.proofs.Common.{◌≡◌, ℕ, zero, suc, ◌+◌, ◌==◌, nat_lt, Bool, true, ◌&&◌, List, [], ◌∷◌, map, length, Option, Some, None, option_map, slice_get, refl, sym, ap, ap₂, ◌∙◌, subst}
use Rattle.sq_ast.specs.declared.expr.ArgUse.{ArgUse, roll-ArgUse, out-ArgUse}
use Rattle.sq_ast.specs.declared.expr.Link.{Link, roll-Link}
use Rattle.sq_ast.specs.declared.expr.Expr.{Expr, roll-Expr}
use Rattle.sq_ast.specs.declared.expr.Expr.TheVariants as e
use Rattle.sq_ast.specs.declared.expr.Expr.TheOpen.{Expr-F, ArgUse-F, Link-F}
use Rattle.sq_ast.specs.declared.expr.Expr.TheFolds.{ind-Expr, ind-ArgUse, map-Expr, map-ArgUse, map-Link}
use Rattle.sq_ast.specs.declared.program.Extent.{Extent}
use Rattle.sq_ast.specs.declared.program.Extent.TheVariants as extent
use Rattle.sq_ast.specs.declared.program.Param.{Param}
use Rattle.sq_ast.specs.declared.program.Decl.{Decl}
use Rattle.sq_ast.specs.declared.program.Decl.TheVariants as decl
use Rattle.sq_ast.specs.Num.declared.Elem.{Elem}
use Rattle.sq_ast.specs.Modes.{is_written}
use Rattle.sq_ast.specs.Unplaced.{nowhere, bare_word, bare_expr, bare_use, bare_link, bare_extent, bare_param, bare_decl}
use Rattle.sq_ast.proofs.Bare.{bare_number, bare_name, bare_element, bare_len, bare_unary, bare_chain, bare_least, bare_most, use_is, link_is}
use Rattle.sq_types.specs.declared.kind.Kind.TheVariants as kind
use Rattle.sq_types.specs.Known.{Known, kind_of, with_name}
use Rattle.sq_types.specs.Table.{most_arrays, array_type, dims_of, same_mode, same_elem}
use Rattle.sq_types.specs.Sites.{with_param, extents_known, param_known, params_known, param_at, local_known, rchop_known, decl_known, decls_known, arrays_after}
use Rattle.sq_types.specs.Sound.{Test, has_dims, is_new, may_be_size, names_array, agrees, is_sound_expr, are_sound_exprs, is_sound_link, are_sound_links, are_sound_extents, is_as_first, is_sound_param, are_sound_params, is_sound_decl, are_sound_decls}
use Rattle.sq_types.proofs.Opened.{length_map}
use Rattle.sq_types.proofs.SoundExprs.{sound_link, sound_name, sound_element, sound_len, sound_unary, sound_chain, sound_least, sound_most}

-- ---- expressions

abbrev SameExpr : Expr → Type 0
SameExpr x = is_sound_expr (bare_expr x) ≡ is_sound_expr x

-- a name with its indices, without its places, and what is sound of these
pub record SameUse (u : ArgUse) : Type 0 where
  pub name : (out-ArgUse (bare_use u)).name ≡ (out-ArgUse u).name
  pub index : (out-ArgUse (bare_use u)).index ≡ map bare_expr (out-ArgUse u).index
  pub within : are_sound_exprs (map bare_expr (out-ArgUse u).index) ≡ are_sound_exprs (out-ArgUse u).index

abbrev SameLink : Link → Type 0
SameLink l = is_sound_link (bare_link l) ≡ is_sound_link l

abbrev E : Type 0
E = (x : Expr) × SameExpr x

abbrev U : Type 0
U = (u : ArgUse) × SameUse u

abbrev L : Type 0
L = (l : Link) × SameLink l

-- both tests hold
abbrev pub both : Test → Test → Test
both s t known = s known && t known

exprs_with : (xs : List E) → are_sound_exprs (map bare_expr (map (λ m. m.0) xs)) ≡ are_sound_exprs (map (λ m. m.0) xs)
exprs_with [] = refl
exprs_with (x ∷ xs) = ap₂ both x.1 (exprs_with xs)

links_with : (ls : List L) → are_sound_links (map bare_link (map (λ m. m.0) ls)) ≡ are_sound_links (map (λ m. m.0) ls)
links_with [] = refl
links_with (l ∷ ls) = ap₂ both l.1 (links_with ls)

pub length_same : (u : ArgUse) → SameUse u → length (out-ArgUse (bare_use u)).index ≡ length (out-ArgUse u).index
length_same u h = ap length h.index ∙ length_map bare_expr (out-ArgUse u).index

pub within_same : (u : ArgUse) → SameUse u → are_sound_exprs (out-ArgUse (bare_use u)).index ≡ are_sound_exprs (out-ArgUse u).index
within_same u h = ap are_sound_exprs h.index ∙ h.within

element_same : (u : ArgUse) → SameUse u → is_sound_expr (e.Element (bare_use u)) ≡ is_sound_expr (e.Element u)
element_same u h =
    sound_element (bare_use u)
    ∙ ap₂ (λ (n : ℕ) (t : Test). λ known. has_dims n (kind_of known (out-ArgUse (bare_use u)).name) && t known) (length_same u h) (within_same u h)
    ∙ ap (λ (name : List ℕ). λ known. has_dims (length (out-ArgUse u).index) (kind_of known name) && are_sound_exprs (out-ArgUse u).index known) h.name
    ∙ sym (sound_element u)

expr_same : (y : Expr-F E U L) → SameExpr (roll-Expr (map-Expr E U L Expr ArgUse Link (λ p. p.0) (λ p. p.0) (λ p. p.0) y))
expr_same (Expr-F.Number n) = subst SameExpr (sym (e.rolls-Number n)) (ap is_sound_expr (bare_number n))
expr_same (Expr-F.Name w) = subst SameExpr (sym (e.rolls-Name w)) (ap is_sound_expr (bare_name w) ∙ sound_name (bare_word w) ∙ sym (sound_name w))
expr_same (Expr-F.Element u) = subst SameExpr (sym (e.rolls-Element u.0)) (ap is_sound_expr (bare_element u.0) ∙ element_same u.0 u.1)
expr_same (Expr-F.Len w) = subst SameExpr (sym (e.rolls-Len w)) (ap is_sound_expr (bare_len w) ∙ sound_len (bare_word w) ∙ sym (sound_len w))
expr_same (Expr-F.Unary p o x) =
    subst SameExpr (sym (e.rolls-Unary p o x.0))
    (ap is_sound_expr (bare_unary p o x.0) ∙ sound_unary nowhere o (bare_expr x.0) ∙ x.1 ∙ sym (sound_unary p o x.0))
expr_same (Expr-F.Chain x ls) =
    let links = map (λ m. m.0) ls in
    subst SameExpr (sym (e.rolls-Chain x.0 links))
    (ap is_sound_expr (bare_chain x.0 links) ∙ sound_chain (bare_expr x.0) (map bare_link links) ∙ ap₂ both x.1 (links_with ls) ∙ sym (sound_chain x.0 links))
expr_same (Expr-F.Least x y) =
    subst SameExpr (sym (e.rolls-Least x.0 y.0))
    (ap is_sound_expr (bare_least x.0 y.0) ∙ sound_least (bare_expr x.0) (bare_expr y.0) ∙ ap₂ both x.1 y.1 ∙ sym (sound_least x.0 y.0))
expr_same (Expr-F.Most x y) =
    subst SameExpr (sym (e.rolls-Most x.0 y.0))
    (ap is_sound_expr (bare_most x.0 y.0) ∙ sound_most (bare_expr x.0) (bare_expr y.0) ∙ ap₂ both x.1 y.1 ∙ sym (sound_most x.0 y.0))

use_same : (y : ArgUse-F E U L) → SameUse (roll-ArgUse (map-ArgUse E U L Expr ArgUse Link (λ p. p.0) (λ p. p.0) (λ p. p.0) y))
use_same y =
    let is = use_is y.place y.name (map (λ m. m.0) y.index) in
    record {
      name = ap (λ (u : ArgUse). (out-ArgUse u).name) is;
      index = ap (λ (u : ArgUse). (out-ArgUse u).index) is;
      within = exprs_with y.index;
    }

link_same : (y : Link-F E U L) → SameLink (roll-Link (map-Link E U L Expr ArgUse Link (λ p. p.0) (λ p. p.0) (λ p. p.0) y))
link_same y =
    ap is_sound_link (link_is y.place y.op y.right.0)
    ∙ sound_link (roll-Link (record { place = nowhere; op = y.op; right = bare_expr y.right.0 })) ∙ y.right.1
    ∙ sym (sound_link (roll-Link (record { place = y.place; op = y.op; right = y.right.0 })))

pub same_expr : (x : Expr) → SameExpr x
same_expr = ind-Expr SameExpr SameUse SameLink (λ x y is. subst (λ z. SameExpr (roll-Expr z)) is (expr_same y))
    (λ x y is. subst (λ z. SameUse (roll-ArgUse z)) is (use_same y)) (λ x y is. subst (λ z. SameLink (roll-Link z)) is (link_same y))

pub same_use : (u : ArgUse) → SameUse u
same_use = ind-ArgUse SameExpr SameUse SameLink (λ x y is. subst (λ z. SameExpr (roll-Expr z)) is (expr_same y))
    (λ x y is. subst (λ z. SameUse (roll-ArgUse z)) is (use_same y)) (λ x y is. subst (λ z. SameLink (roll-Link z)) is (link_same y))

pub same_exprs : (xs : List Expr) → are_sound_exprs (map bare_expr xs) ≡ are_sound_exprs xs
same_exprs [] = refl
same_exprs (x ∷ xs) = ap₂ both (same_expr x) (same_exprs xs)

-- ---- parameters

pub same_dims : (p : Param) → length (bare_param p).extents ≡ length p.extents
same_dims p = length_map bare_extent p.extents

same_with_param : (known : Known) (p : Param) → with_param known (bare_param p) ≡ with_param known p
same_with_param known p = ap (λ (n : ℕ). with_name known p.name (kind.Array (record { dims = n; is_writable = is_written p.mode; elem = p.elem }))) (same_dims p)

same_extents_known : (es : List Extent) (known : Known) → extents_known (map bare_extent es) known ≡ extents_known es known
same_extents_known [] known = refl
same_extents_known (extent.Size p n ∷ es) known = same_extents_known es (with_name known n kind.Size)
same_extents_known (extent.Fixed p n ∷ es) known = same_extents_known es known

same_extents : (es : List Extent) (known : Known) → are_sound_extents (map bare_extent es) known ≡ are_sound_extents es known
same_extents [] known = refl
same_extents (extent.Size p n ∷ es) known = ap (λ b. may_be_size n known && b) (same_extents es (with_name known n kind.Size))
same_extents (extent.Fixed p n ∷ es) known = same_extents es known

same_param_known : (p : Param) (known : Known) → param_known (bare_param p) known ≡ param_known p known
same_param_known p known = same_extents_known p.extents (with_param known (bare_param p)) ∙ ap (extents_known p.extents) (same_with_param known p)

pub same_params_known : (ps : List Param) (known : Known) → params_known (map bare_param ps) known ≡ params_known ps known
same_params_known [] known = refl
same_params_known (p ∷ ps) known = same_params_known ps (param_known (bare_param p) known) ∙ ap (params_known ps) (same_param_known p known)

pub get_map : {A B : Type 0} (f : A → B) (xs : List A) (i : ℕ) → slice_get (map f xs) i ≡ option_map f (slice_get xs i)
get_map f [] i = refl
get_map f (x ∷ xs) zero = refl
get_map f (x ∷ xs) (suc i) = get_map f xs i

pub same_param_at : (o : Option (List Param)) (i : ℕ) → param_at (option_map (map bare_param) o) i ≡ option_map bare_param (param_at o i)
same_param_at None i = refl
same_param_at (Some ps) i = get_map bare_param ps i

same_as_first : (first : Option Param) (p : Param) → is_as_first (option_map bare_param first) (bare_param p) ≡ is_as_first first p
same_as_first None p = refl
same_as_first (Some f) p = ap₂ (λ (n m : ℕ). n == m && (same_mode f.mode p.mode && same_elem f.elem p.elem)) (same_dims f) (same_dims p)

same_param : (first : Option Param) (i : ℕ) (p : Param) (known : Known) → is_sound_param (option_map bare_param first) i (bare_param p) known ≡ is_sound_param first i p known
same_param first i p known =
    ap₂ (λ (a b : Bool). is_new p.name known && a && nat_lt i most_arrays && b) (same_as_first first p)
    (same_extents p.extents (with_param known (bare_param p)) ∙ ap (are_sound_extents p.extents) (same_with_param known p))

pub same_params : (first : Option (List Param)) (i : ℕ) (ps : List Param) (known : Known)
    → are_sound_params (option_map (map bare_param) first) i (map bare_param ps) known ≡ are_sound_params first i ps known
same_params first i [] known = refl
same_params first i (p ∷ ps) known =
    ap₂ (λ (a b : Bool). a && b)
    (ap (λ (o : Option Param). is_sound_param o i (bare_param p) known) (same_param_at first i) ∙ same_param (param_at first i) i p known)
    (same_params first (i + 1) ps (param_known (bare_param p) known) ∙ ap (are_sound_params first (i + 1) ps) (same_param_known p known))

-- ---- declarations

same_local_known : (t : Elem) (n : List ℕ) (xs : List Expr) (known : Known) → local_known t n (map bare_expr xs) known ≡ local_known t n xs known
same_local_known t n xs known = ap (λ (k : ℕ). with_name known n (kind.Array (record { dims = k; is_writable = true; elem = t }))) (length_map bare_expr xs)

pub same_decl_known : (d : Decl) (known : Known) → decl_known (bare_decl d) known ≡ decl_known d known
same_decl_known (decl.Tunable p n) known = refl
same_decl_known (decl.List p n) known = refl
same_decl_known (decl.Local p t n xs) known = same_local_known t n xs known
same_decl_known (decl.Rchop p n a xs) known = refl
same_decl_known (decl.Ichop p n a b c) known = refl

pub same_decls_known : (ds : List Decl) (known : Known) → decls_known (map bare_decl ds) known ≡ decls_known ds known
same_decls_known [] known = refl
same_decls_known (d ∷ ds) known = same_decls_known ds (decl_known (bare_decl d) known) ∙ ap (decls_known ds) (same_decl_known d known)

same_arrays_after : (before : ℕ) (d : Decl) → arrays_after before (bare_decl d) ≡ arrays_after before d
same_arrays_after before (decl.Tunable p n) = refl
same_arrays_after before (decl.List p n) = refl
same_arrays_after before (decl.Local p t n xs) = refl
same_arrays_after before (decl.Rchop p n a xs) = refl
same_arrays_after before (decl.Ichop p n a b c) = refl

same_decl : (before : ℕ) (d : Decl) (known : Known) → is_sound_decl before (bare_decl d) known ≡ is_sound_decl before d known
same_decl before (decl.Tunable p n) known = refl
same_decl before (decl.List p n) known = refl
same_decl before (decl.Local p t n xs) known =
    ap (λ b. is_new n known && nat_lt before most_arrays && b)
    (ap (λ (f : Test). f (local_known t n (map bare_expr xs) known)) (same_exprs xs) ∙ ap (are_sound_exprs xs) (same_local_known t n xs known))
same_decl before (decl.Rchop p n a xs) known =
    ap₂ (λ (k : ℕ) (f : Test). is_new n known && agrees (dims_of (array_type (kind_of known a.name))) k && (names_array a.name (rchop_known n a known) && f (rchop_known n a known)))
    (length_map bare_expr xs) (same_exprs xs)
same_decl before (decl.Ichop p n a b c) known = refl

pub same_decls : (before : ℕ) (ds : List Decl) (known : Known) → are_sound_decls before (map bare_decl ds) known ≡ are_sound_decls before ds known
same_decls before [] known = refl
same_decls before (d ∷ ds) known =
    ap₂ (λ (a b : Bool). a && b) (same_decl before d known)
    (ap (λ (k : ℕ). are_sound_decls k (map bare_decl ds) (decl_known (bare_decl d) known)) (same_arrays_after before d)
    ∙ same_decls (arrays_after before d) ds (decl_known (bare_decl d) known) ∙ ap (are_sound_decls (arrays_after before d) ds) (same_decl_known d known))
