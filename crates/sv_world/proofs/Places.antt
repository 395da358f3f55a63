-- Nodes that are written at a place which was kept for them.
use Rattle.std.proofs.Common.{◌≡◌, ℕ, suc, ◌+◌, ◌-◌, List, [], ◌∷◌, ◌++◌, length, map, set, refl, sym, ap, ◌∙◌, append_assoc, length-append, arith}
use Rattle.sv_world.specs.declared.action.Cond.{Cond}
use Rattle.sv_world.specs.declared.action.Stmt.{Stmt}
use Rattle.sv_world.specs.declared.action.Stmt.TheVariants as stmt
use Rattle.sv_world.specs.declared.node.Node.{Node}
use Rattle.sv_world.specs.declared.node.Node.TheVariants as node
use Rattle.sv_world.specs.Short.{stmt_is_short}
use Rattle.sv_world.specs.Spelled.{cond_spelled, stmt_spelled, body_spelled}
use Rattle.sv_world.proofs.Layers.{if_spelled}

pub set_at_end : (old : List Node) (kept n : Node) (rest : List Node) → set (old ++ (kept ∷ rest)) (length old) n ≡ old ++ (n ∷ rest)
set_at_end [] kept n rest = refl
set_at_end (o ∷ old) kept n rest = ap (λ (ns : List Node). o ∷ ns) (set_at_end old kept n rest)

pub set_reserved : (old : List Node) (kept n : Node) (rest : List Node) → set ((old ++ kept ∷ []) ++ rest) (length old) n ≡ old ++ (n ∷ rest)
set_reserved old kept n rest = ap (λ (ns : List Node). set ns (length old) n) (append_assoc old (kept ∷ []) rest) ∙ set_at_end old kept n rest

-- The number of nodes behind the kept place.
pub size_behind : (old : List Node) (kept : Node) (rest : List Node) → length ((old ++ kept ∷ []) ++ rest) - length old - 1 ≡ length rest
size_behind old kept rest = omega (arith, length-append (old ++ kept ∷ []) rest, length-append old (kept ∷ []))

pub place_within : (old : List Node) (kept : Node) (rest : List Node) → length old + 1 + length rest ≡ length ((old ++ kept ∷ []) ++ rest)
place_within old kept rest = omega (arith, length-append (old ++ kept ∷ []) rest, length-append old (kept ∷ []))

pub if_at_end : (old : List Node) (c : Cond) (xs ys : List Stmt)
    → (((old ++ node.If ∷ []) ++ cond_spelled c) ++ body_spelled xs) ++ body_spelled ys ≡ old ++ stmt_spelled (stmt.If c xs ys)
if_at_end old c xs ys =
    append_assoc ((old ++ node.If ∷ []) ++ cond_spelled c) (body_spelled xs) (body_spelled ys)
    ∙ append_assoc (old ++ node.If ∷ []) (cond_spelled c) (body_spelled xs ++ body_spelled ys)
    ∙ append_assoc old (node.If ∷ []) (cond_spelled c ++ (body_spelled xs ++ body_spelled ys))
    ∙ ap (λ (ns : List Node). old ++ (node.If ∷ ns)) (sym (append_assoc (cond_spelled c) (body_spelled xs) (body_spelled ys)))
    ∙ ap (λ (ns : List Node). old ++ ns) (sym (if_spelled c xs ys))

-- A block whose node was kept open.
pub block_at_end : (old out run : List Node) (count place len : ℕ) → out ≡ (old ++ node.Block count 0 ∷ []) ++ run → place ≡ length old → len ≡ length out
    → set out place (node.Block count (len - place - 1)) ≡ old ++ (node.Block count (length run) ∷ run)
block_at_end old out run count place len e p l =
    let size : len - place - 1 ≡ length run = omega (arith, ap length e, l, p, length-append (old ++ node.Block count 0 ∷ []) run, length-append old (node.Block count 0 ∷ [])) in
    ap (λ (z : ℕ). set out place (node.Block count z)) size
    ∙ ap (λ (k : ℕ). set out k (node.Block count (length run))) p
    ∙ ap (λ (ns : List Node). set ns (length old) (node.Block count (length run))) e
    ∙ set_reserved old (node.Block count 0) (node.Block count (length run)) run

pub length_tests : (xs : List Stmt) → length (map stmt_is_short xs) ≡ length xs
length_tests [] = refl
length_tests (x ∷ xs) = ap suc (length_tests xs)
