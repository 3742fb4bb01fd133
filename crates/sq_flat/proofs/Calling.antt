-- A call follows its meaning where its callee does.
use Rattle.std.proofs.Common.{arith, ◌≡◌, ◌∙◌, sym, ap, subst, refl, ℕ, zero, suc, ◌-◌, List, map, length, slice_get, Option, Some, Ok, Err}
use Rattle.sq_rect.specs.declared.view.View.{View}
use Rattle.sq_leaf.specs.Source.{Arrays}
use Rattle.sq_leaf.specs.Views.{Shows, shape_of}
use Rattle.sq_blocks.specs.declared.argument.Argument.{Argument}
use Rattle.sq_spec.specs.declared.statement.CallInstance.{CallInstance as Row}
use Rattle.sq_work.specs.Meaning.{Outcome, and_then, at_entry, at_return}
use Rattle.sq_flat.specs.declared.form.FormCode.{FormCode}
use Rattle.sq_flat.specs.declared.form.End.{End}
use Rattle.sq_flat.specs.Memory.{total, ArePlaced, ArgFits, ArgsFit, FitFrom, start_bytes, end_bytes}
use Rattle.sq_flat.specs.Ready.{IsLine, IsBody, IsForm, AreReady, RowFits}
use Rattle.sq_spec.specs.declared.body.Body.TheVariants as body
use Rattle.sq_spec.specs.declared.statement.Statement.{Statement}
use Rattle.sq_spec.specs.Bodies.{running, body_work}
use Rattle.sq_flat.specs.Works.{body_in, form_work, Follows}
use Rattle.sq_flat.proofs.Entered.{HaveSizes, have_sizes, start_length, line_placed, entered_shown}
use Rattle.sq_flat.proofs.Returned.{end_shown}
use Rattle.sq_flat.proofs.Fitting.{same_some}
use Rattle.sq_flat.proofs.Following.{reached, trapped_first, elsewhere}

pub placed_in_line : (vs : List View) (bytes : List ℕ) → IsLine vs → length bytes ≡ total (map shape_of vs) → ArePlaced vs bytes
placed_in_line vs bytes line long = subst (λ (us : List View). ArePlaced us bytes) (sym line.lined) (line_placed (map shape_of vs) bytes long)

-- a callee's memory has its size
pub memory_long : (outer inner : List View) (bytes : List ℕ) (args : List Argument) → IsLine inner → ArePlaced outer bytes → ArgsFit outer inner args
    → length (start_bytes outer bytes args 0 inner) ≡ total (map shape_of inner)
memory_long outer inner bytes args line placed fit =
    ap (λ (us : List View). length (start_bytes outer bytes args 0 us)) line.lined
    ∙ start_length outer bytes args 0 (map shape_of inner) 0 (subst (HaveSizes outer bytes args 0) line.lined (have_sizes outer inner bytes args placed fit))

pub memory_shows : (outer inner : List View) (bytes : List ℕ) (args : List Argument) (s : Arrays) → IsLine inner → ArePlaced outer bytes → ArgsFit outer inner args → Shows outer bytes s
    → Shows inner (start_bytes outer bytes args 0 inner) (at_entry args s)
memory_shows outer inner bytes args s line placed fit shows =
    subst (λ (us : List View). Shows us (start_bytes outer bytes args 0 us) (at_entry args s)) (sym line.lined)
    (entered_shown outer (map shape_of inner) bytes args s placed (subst (λ (us : List View). ArgsFit outer us args) line.lined fit) shows)

fit_from : (outer inner : List View) (args : List Argument) → ArgsFit outer inner args → FitFrom outer inner 0 args
fit_from outer inner args fit = record { each = λ i a there. subst (λ (j : ℕ). ArgFits outer inner j a) (omega arith) (fit.each i a there) }

pub fits_from : (outer inner : List View) (args : List Argument) → ArgsFit outer inner args → FitFrom outer inner 0 args
fits_from outer inner args fit = fit_from outer inner args fit

pub returned_shows : (outer inner : List View) (bytes memory : List ℕ) (args : List Argument) (t s : Arrays) → IsLine outer → ArePlaced outer bytes → ArePlaced inner memory → ArgsFit outer inner args
    → Shows outer bytes s → Shows inner memory t → Shows outer (end_bytes outer inner memory 0 args bytes) (at_return 0 args t s)
returned_shows outer inner bytes memory args t s line placed inner_placed fit shows inner_shows =
    let same = line.lined in
    subst (λ (us : List View). Shows us (end_bytes us inner memory 0 args bytes) (at_return 0 args t s)) (sym same)
    ((end_shown (map shape_of outer) inner 0 args memory bytes t s (subst (λ (us : List View). ArePlaced us bytes) same placed) inner_placed
    (subst (λ (us : List View). FitFrom us inner 0 args) same (fit_from outer inner args fit)) (subst (λ (us : List View). Shows us bytes s) same shows) inner_shows).shows)

-- the form that is reached
pub form_of : (forms : List FormCode) (calls k : ℕ) (f : FormCode) → (calls ≡ 0 → ⊥) → slice_get forms k ≡ Some f
    → form_work forms calls k ≡ running (form_work forms (calls - 1)) (map shape_of f.views) f.body
form_of forms zero k f some there = absurd (some refl)
form_of forms (suc n) k f some there =
    let less : suc n - 1 ≡ n = omega arith in
    ap (λ (o : Option FormCode). body_work (form_work forms n) (body_in o)) there ∙ ap (λ (m : ℕ). running (form_work forms m) (map shape_of f.views) f.body) (sym less)

pub row_form : (forms : List FormCode) (vs : List View) (r : Row) (f : FormCode) → RowFits forms vs r → slice_get forms r.form ≡ Some f → ArgsFit vs f.views r.args
row_form forms vs r f fit there = subst (λ (g : FormCode). ArgsFit vs g.views r.args) (same_some fit.form f (sym fit.is ∙ there)) fit.args

-- the callee ended, and its parameters were put back
pub call_ends : (outer inner : List View) (bytes memory new : List ℕ) (args : List Argument) (s : Arrays) (o : Outcome) → IsLine outer → ArePlaced outer bytes → ArePlaced inner memory
    → ArgsFit outer inner args → Shows outer bytes s → Follows inner memory (Ok tt) o → new ≡ end_bytes outer inner memory 0 args bytes
    → Follows outer new (Ok tt) (and_then o (λ t. Ok (at_return 0 args t s)))
call_ends outer inner bytes memory new args s o line placed inner_placed fit shows follows is =
    let its = reached inner memory tt o follows in
    subst (λ (q : Outcome). Follows outer new (Ok tt) (and_then q (λ t. Ok (at_return 0 args t s)))) (sym its.is)
    (subst (λ (b : List ℕ). Shows outer b (at_return 0 args its.state s)) (sym is) (returned_shows outer inner bytes memory args its.state s line placed inner_placed fit shows its.shows))

pub call_traps : (outer inner : List View) (bytes memory : List ℕ) (args : List Argument) (s : Arrays) (o : Outcome) (end : End) → Follows inner memory (Err end) o
    → Follows outer bytes (Err end) (and_then o (λ t. Ok (at_return 0 args t s)))
call_traps outer inner bytes memory args s o end follows = trapped_first outer bytes end o (λ t. Ok (at_return 0 args t s)) (elsewhere inner outer memory bytes end o follows)

pub body_ready : (forms : List FormCode) (f : FormCode) (list other : List Statement) → IsForm forms f → f.body ≡ body.Inner list → other ≡ list → AreReady forms f.views other
body_ready forms f list other form is same = subst (AreReady forms f.views) (sym same) (subst (IsBody forms f.views) is form.body)
