-- Labels change no token.
use Rattle.std.proofs.Common.{◌≡◌, ℕ, List, [], ◌∷◌, Option, Some, None, refl, ap}
use Rattle.sq_ast.specs.Symbols.{Symbol}
use Rattle.sq_ast.specs.Grammar.{kinds}
use Rattle.sq_reader.proofs.Machine.{Owed, settle, labeled, label}

kinds_labeled : (t : Symbol) (o : Option (ℕ × List Owed)) (ts : List Symbol) → ((K : List Owed) → kinds (label ts K) ≡ ts) → kinds (labeled t o (label ts)) ≡ t ∷ ts
kinds_labeled t None ts h = ap (λ x. t ∷ x) (h [])
kinds_labeled t (Some p) ts h = ap (λ x. t ∷ x) (h p.1)

pub kinds_label : (ts : List Symbol) (K : List Owed) → kinds (label ts K) ≡ ts
kinds_label [] K = refl
kinds_label (t ∷ ts) K = kinds_labeled t (settle K t) ts (kinds_label ts)
