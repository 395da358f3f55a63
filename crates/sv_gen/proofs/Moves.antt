-- The nodes of an act's statements.
use Rattle.std.proofs.Common.{◌≡◌, ℕ, pos, List, [], ◌∷◌, ◌++◌, length, refl, sym, ap, ◌∙◌, append_assoc}
use Rattle.sv_world.specs.declared.action.Expr.TheVariants as expr
use Rattle.sv_world.specs.declared.action.Stmt.{Stmt}
use Rattle.sv_world.specs.declared.node.Node.{Node}
use Rattle.sv_world.specs.declared.node.Node.TheVariants as node
use Rattle.sv_world.specs.declared.node.Operator.{Operator}
use Rattle.sv_world.specs.declared.node.Operator.TheVariants.{Add, Sub}
use Rattle.sv_world.specs.Parts.{binary_by, first, parts, block_in, IsBody}
use Rattle.sv_world.specs.Spelled.{expr_spelled, stmt_spelled, run_spelled, body_spelled}
use Rattle.sv_world.proofs.Layers.{lit_spelled, attr_spelled, binary_spelled, set_spelled}
use Rattle.sv_world.proofs.Spells.{body_is, body_view}
use Rattle.sv_gen.specs.Generated.{taken, added}
use Rattle.sv_gen.specs.Changes.{change}

abbrev four : ℕ → ℕ → Operator → ℕ → List Node
four slot attr operator t = node.Set slot attr ∷ node.Binary operator ∷ node.Attr slot attr ∷ node.Lit (pos t) ∷ []

pub change_is_spelled : (slot attr : ℕ) (operator : Operator) (t : ℕ) → stmt_spelled (change slot attr operator t) ≡ four slot attr operator t
change_is_spelled slot attr operator t =
    set_spelled slot attr (binary_by operator (expr.Attr slot attr) (expr.Lit (pos t)))
    ∙ ap (λ (ns : List Node). node.Set slot attr ∷ ns) (binary_spelled operator (expr.Attr slot attr) (expr.Lit (pos t)))
    ∙ ap (λ (ns : List Node). node.Set slot attr ∷ node.Binary operator ∷ (ns ++ expr_spelled (expr.Lit (pos t)))) (attr_spelled slot attr)
    ∙ ap (λ (ns : List Node). node.Set slot attr ∷ node.Binary operator ∷ node.Attr slot attr ∷ ns) (lit_spelled (pos t))

-- Three statements of four nodes are a body of twelve, behind the block's own node.
three : (x y z : Stmt) (xs ys zs : List Node) → stmt_spelled x ≡ xs → stmt_spelled y ≡ ys → stmt_spelled z ≡ zs →
    body_spelled (x ∷ y ∷ z ∷ []) ≡ node.Block 3 (length (xs ++ (ys ++ (zs ++ [])))) ∷ (xs ++ (ys ++ (zs ++ [])))
three x y z xs ys zs p q r = rw (p, q, r) refl

spelled : (slot other t attr : ℕ) → node.Block 3 12 ∷ (four slot 0 Sub t ++ (four other 0 Add t ++ (four slot attr Add 1 ++ []))) ≡ body_spelled (taken slot t ∷ added other 0 t ∷ added slot attr 1 ∷ [])
spelled slot other t attr = sym (three (taken slot t) (added other 0 t) (added slot attr 1) (four slot 0 Sub t) (four other 0 Add t) (four slot attr Add 1)
    (change_is_spelled slot 0 Sub t) (change_is_spelled other 0 Add t) (change_is_spelled slot attr Add 1))

moves_spelled : (ns : List Node) (slot other t : ℕ) →
    ns ≡ (((node.Block 3 12 ∷ []) ++ stmt_spelled (change slot 0 Sub t)) ++ stmt_spelled (change other 0 Add t)) ++ stmt_spelled (change slot 1 Add 1) →
    ns ≡ body_spelled (taken slot t ∷ added other 0 t ∷ added slot 1 1 ∷ [])
moves_spelled ns slot other t e =
    e ∙ rw (change_is_spelled slot 0 Sub t, change_is_spelled other 0 Add t, change_is_spelled slot 1 Add 1) refl ∙ spelled slot other t 1

pub moves_are_a_body : (ns : List Node) (slot other t : ℕ) →
    ns ≡ (((node.Block 3 12 ∷ []) ++ stmt_spelled (change slot 0 Sub t)) ++ stmt_spelled (change other 0 Add t)) ++ stmt_spelled (change slot 1 Add 1) →
    IsBody ns
moves_are_a_body ns slot other t e = body_is ns (taken slot t ∷ added other 0 t ∷ added slot 1 1 ∷ []) (moves_spelled ns slot other t e)

pub moves_are_seen : (ns : List Node) (slot other t : ℕ) →
    ns ≡ (((node.Block 3 12 ∷ []) ++ stmt_spelled (change slot 0 Sub t)) ++ stmt_spelled (change other 0 Add t)) ++ stmt_spelled (change slot 1 Add 1) →
    block_in (first (parts ns)) ≡ taken slot t ∷ added other 0 t ∷ added slot 1 1 ∷ []
moves_are_seen ns slot other t e = body_view ns (taken slot t ∷ added other 0 t ∷ added slot 1 1 ∷ []) (moves_spelled ns slot other t e)
