-- Tallies of maps: those of a statement are the first of those of the statements from it on.
use Rattle.std.proofs.Common.{◌≡◌, ℕ, suc, ◌+◌, ◌<◌, List, [], ◌∷◌, ◌++◌, map, length, drop, get_or, Some, None, refl, sym, ◌∙◌, ap, subst, append_assoc, append-nil, length-append, arith}
use Rattle.std.specs.Prelude.{slice_get, slice_set}
use Rattle.std.proofs.Math.Seq.{set-append_seam}
use Rattle.sq_text.specs.declared.place.Place.{Place}
use Rattle.sq_ast.specs.declared.stmt.Range.{Range}
use Rattle.sq_ast.specs.declared.stmt.MapKind.{MapKind}
use Rattle.sq_ast.specs.declared.stmt.Stmt.{Stmt, roll-Stmt}
use Rattle.sq_ast.specs.declared.stmt.Stmt.TheVariants as s
use Rattle.sq_ast.specs.declared.stmt.Stmt.TheOpen.{Stmt-F}
use Rattle.sq_ast.specs.declared.stmt.Stmt.TheFolds.{ind-Stmt, map-Stmt}
use Rattle.sq_forms.specs.declared.tally.Tally.{Tally}
use Rattle.sq_forms.specs.Stmts.{Portion, portion, Begins, inside_of, maps_of, tally_of, sum_of_all}
use Rattle.sq_forms.proofs.OpenedStmt.{portion_call, portion_map}
use Rattle.sq_forms.proofs.Argued.{next_at}

-- ---- a statement has as many tallies as maps

abbrev AsMany : Portion → Type 0
AsMany p = p.inside ≡ length p.maps

abbrev OfStmt : Stmt → Type 0
OfStmt x = AsMany (portion x)

abbrev S : Type 0
S = (x : Stmt) × OfStmt x

many_parts : (xs : List S) → inside_of (map portion (map (λ (q : S). q.0) xs)) ≡ length (maps_of (map portion (map (λ (q : S). q.0) xs)))
many_parts [] = refl
many_parts (x ∷ xs) =
    let a = x.1 in
    let b = many_parts xs in
    omega (arith, a, b, length-append (portion x.0).maps (maps_of (map portion (map (λ (q : S). q.0) xs))))

many_step : (y : Stmt-F S) → OfStmt (roll-Stmt (map-Stmt S Stmt (λ p. p.0) y))
many_step (Stmt-F.Call c) = subst OfStmt (sym (s.rolls-Call c)) (subst AsMany (sym (portion_call c)) refl)
many_step (Stmt-F.Map p k rs xs) =
    let ys = map (λ (q : S). q.0) xs in
    let many : 1 + inside_of (map portion ys) ≡ suc (length (maps_of (map portion ys))) = let b = many_parts xs in omega (arith, b) in
    subst OfStmt (sym (s.rolls-Map p k rs ys)) (subst AsMany (sym (portion_map p k rs ys)) many)

many_stmt : (x : Stmt) → OfStmt x
many_stmt = ind-Stmt OfStmt (λ x y is. subst (λ z. OfStmt (roll-Stmt z)) is (many_step y))

-- ---- lists that begin with others

pub whole_begins : {A : Type 0} (xs : List A) → Begins xs xs
whole_begins xs = record { rest = []; is = sym (append-nil xs) }

drop_front : {A : Type 0} (xs ys : List A) → drop (length xs) (xs ++ ys) ≡ ys
drop_front [] ys = refl
drop_front (x ∷ xs) ys = drop_front xs ys

-- the tallies of a statement, and of those behind it
pub first_begins : (list : List Stmt) (i : ℕ) (x : Stmt) (whole : List Tally) → i < length list → x ≡ get_or list i x
    → Begins (maps_of (map portion (drop i list))) whole → Begins (portion x).maps whole
first_begins list i x whole less at b =
    let e : maps_of (map portion (drop i list)) ≡ (portion x).maps ++ maps_of (map portion (drop (i + 1) list)) = ap (λ l. maps_of (map portion l)) (next_at i list x less at) in
    record {
      rest = maps_of (map portion (drop (i + 1) list)) ++ b.rest;
      is = b.is ∙ (ap (λ l. l ++ b.rest) e ∙ append_assoc (portion x).maps (maps_of (map portion (drop (i + 1) list))) b.rest);
    }

pub rest_begins : (list : List Stmt) (i : ℕ) (x : Stmt) (whole left : List Tally) (n : ℕ) → i < length list → x ≡ get_or list i x
    → Begins (maps_of (map portion (drop i list))) whole
    → n ≡ length (portion x).maps → left ≡ drop n whole → Begins (maps_of (map portion (drop (i + 1) list))) left
rest_begins list i x whole left n less at b count is =
    let more = maps_of (map portion (drop (i + 1) list)) in
    let e : maps_of (map portion (drop i list)) ≡ (portion x).maps ++ more = ap (λ l. maps_of (map portion l)) (next_at i list x less at) in
    let w : whole ≡ (portion x).maps ++ (more ++ b.rest) = b.is ∙ (ap (λ l. l ++ b.rest) e ∙ append_assoc (portion x).maps more b.rest) in
    record { rest = b.rest; is = is ∙ ((λ j. drop (count j) (w j)) ∙ drop_front (portion x).maps (more ++ b.rest)) }

pub inner_begins : (x : Stmt) (p : Place) (k : MapKind) (rs : List Range) (body inner : List Stmt) (whole left : List Tally) → x ≡ s.Map p k rs body
    → inner ≡ body → Begins (portion x).maps whole → left ≡ drop 1 whole
    → Begins (maps_of (map portion inner)) left
inner_begins x p k rs body inner whole left e same b is =
    let maps : (portion x).maps ≡ tally_of (map portion body) ∷ maps_of (map portion body) = ap (λ (q : Portion). q.maps) (ap portion e ∙ portion_map p k rs body) in
    let w : whole ≡ tally_of (map portion body) ∷ (maps_of (map portion body) ++ b.rest) = b.is ∙ ap (λ l. l ++ b.rest) maps in
    record { rest = b.rest; is = is ∙ (ap (drop 1) w ∙ ap (λ l. maps_of (map portion l) ++ b.rest) (sym same)) }

-- ---- the first tally is that of the map

tally_first : (x : Stmt) (p : Place) (k : MapKind) (rs : List Range) (body : List Stmt) (whole : List Tally) → x ≡ s.Map p k rs body
    → Begins (portion x).maps whole
    → slice_get whole 0 ≡ Some (tally_of (map portion body))
tally_first x p k rs body whole e b =
    let maps : (portion x).maps ≡ tally_of (map portion body) ∷ maps_of (map portion body) = ap (λ (q : Portion). q.maps) (ap portion e ∙ portion_map p k rs body) in
    ap (λ l. slice_get l 0) (b.is ∙ ap (λ l. l ++ b.rest) maps)

some_same : (t u : Tally) → Some t ≡ Some u → t ≡ u
some_same t u h = cc h

pub tally_calls : (x : Stmt) (p : Place) (k : MapKind) (rs : List Range) (body : List Stmt) (whole : List Tally) (t : Tally) → x ≡ s.Map p k rs body
    → Begins (portion x).maps whole
    → slice_get whole 0 ≡ Some t → t.calls ≡ (portion x).calls
tally_calls x p k rs body whole t e b at =
    ap (λ (u : Tally). u.calls) (some_same t (tally_of (map portion body)) (sym at ∙ tally_first x p k rs body whole e b))
    ∙ sym (ap (λ (q : Portion). q.calls) (ap portion e ∙ portion_map p k rs body))

pub tally_maps : (x : Stmt) (p : Place) (k : MapKind) (rs : List Range) (body : List Stmt) (whole : List Tally) (t : Tally) → x ≡ s.Map p k rs body
    → Begins (portion x).maps whole
    → slice_get whole 0 ≡ Some t → t.maps ≡ length (portion x).maps
tally_maps x p k rs body whole t e b at =
    ap (λ (u : Tally). u.maps) (some_same t (tally_of (map portion body)) (sym at ∙ tally_first x p k rs body whole e b))
    ∙ (sym (ap (λ (q : Portion). q.inside) (ap portion e ∙ portion_map p k rs body)) ∙ many_stmt x)

pub tally_there : (x : Stmt) (p : Place) (k : MapKind) (rs : List Range) (body : List Stmt) (whole : List Tally) → x ≡ s.Map p k rs body
    → Begins (portion x).maps whole → slice_get whole 0 ≡ None → ⊥
tally_there x p k rs body whole e b none = absurd (cc (sym none ∙ tally_first x p k rs body whole e b))

-- ---- a map's tally, put before those of its body once they are there

pub tally_set : (x : Stmt) (p : Place) (k : MapKind) (rs : List Range) (body list : List Stmt) (old pushed done new : List Tally) (here n : ℕ) (first inside : Tally)
    → x ≡ s.Map p k rs body → list ≡ body → here ≡ length old → pushed ≡ old ++ first ∷ [] → done ≡ pushed ++ maps_of (map portion list) → inside ≡ sum_of_all (map portion list)
    → n ≡ 1 + inside.maps → new ≡ slice_set done here (record { calls = inside.calls; maps = n }) → new ≡ old ++ (portion x).maps
tally_set x p k rs body list old pushed done new here n first inside e same at push all sum count is =
    let more = maps_of (map portion list) in
    let own : Tally = record { calls = inside.calls; maps = n } in
    let whole : done ≡ old ++ first ∷ more = all ∙ (ap (λ l. l ++ more) push ∙ append_assoc old (first ∷ []) more) in
    let tally : own ≡ tally_of (map portion list) = (λ i. record { calls = (sum i).calls; maps = (count ∙ ap (λ (u : Tally). 1 + u.maps) sum) i }) in
    let maps : (portion x).maps ≡ tally_of (map portion body) ∷ maps_of (map portion body) = ap (λ (q : Portion). q.maps) (ap portion e ∙ portion_map p k rs body) in
    is ∙ ((λ i. slice_set (whole i) (at i) own) ∙ (set-append_seam old first more own
    ∙ (ap (λ u. old ++ u ∷ more) tally ∙ (ap (λ l. old ++ tally_of (map portion l) ∷ maps_of (map portion l)) same ∙ ap (λ l. old ++ l) (sym maps)))))
