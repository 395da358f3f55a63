-- The text of a node by those of its parts, where it has a kind.
use Rattle.std.proofs.Common.{◌≡◌, ℕ, zero, suc, ◌<◌, ℤ, true, List, [], ◌∷◌, ◌++◌, map, drop, refl, sym, ap, ◌∙◌, append_assoc, arith}
use Rattle.std.specs.Fmt.{signed_decimal}
use Rattle.std.proofs.lemmas.List.Concat.{flat_map-cons}
use Rattle.sv_world.specs.declared.world.ObjectId.{ObjectId}
use Rattle.sv_world.specs.declared.action.Stmt.{Stmt}
use Rattle.sv_world.specs.declared.node.Operator.{Operator}
use Rattle.sv_world.specs.declared.node.Comparison.{Comparison}
use Rattle.sv_world.specs.declared.node.Connective.{Connective}
use Rattle.sv_world.specs.declared.action.Expr.TheVariants as expr
use Rattle.sv_world.specs.Parts.{Part, Expression, Condition, Statement, Block, first, binary, comparison, connective, negated, assignment, choice, with_statement, block, is_expr, is_cond, is_stmt, is_block}
use Rattle.sv_text.specs.Canonical.{ref_text, pair_text, test_text, op_text, comparison_text, joint_text, stmt_text, part_text, else_part, set_part, not_part, if_part, run_text, block_part, other_part}
use Rattle.sv_text.proofs.Layers.{pair_text_is, lit_text, attr_text, test_text_is, joint_text_is, not_text, set_text_is, if_text}

-- ---- texts

pub lit_part : (reads : List ObjectId) (z : ℤ) → part_text reads (Expression (expr.Lit z)) ≡ signed_decimal z
lit_part reads z = lit_text reads z

pub attr_part : (reads : List ObjectId) (slot attr : ℕ) → part_text reads (Expression (expr.Attr slot attr)) ≡ ref_text reads slot attr
attr_part reads slot attr = attr_text reads slot attr

pub binary_part : (reads : List ObjectId) (o : Operator) (p q : Part) → is_expr (binary o p q) ≡ true → part_text reads (binary o p q) ≡ pair_text (part_text reads p) (op_text o) (part_text reads q)
binary_part reads o (Expression a) (Expression b) h = pair_text_is o a b reads
binary_part reads o p q h = absurd cc

pub comparison_part : (reads : List ObjectId) (o : Comparison) (p q : Part) → is_cond (comparison o p q) ≡ true → part_text reads (comparison o p q) ≡ test_text (part_text reads p) (comparison_text o) (part_text reads q)
comparison_part reads o (Expression a) (Expression b) h = test_text_is o a b reads
comparison_part reads o p q h = absurd cc

pub connective_part : (reads : List ObjectId) (o : Connective) (p q : Part) → is_cond (connective o p q) ≡ true → part_text reads (connective o p q) ≡ pair_text (part_text reads p) (joint_text o) (part_text reads q)
connective_part reads o (Condition a) (Condition b) h = joint_text_is o a b reads
connective_part reads o p q h = absurd cc

pub negated_part : (reads : List ObjectId) (p : Part) → is_cond (negated p) ≡ true → part_text reads (negated p) ≡ not_part (part_text reads p)
negated_part reads (Condition a) h = not_text a reads
negated_part reads p h = absurd cc

pub assignment_part : (reads : List ObjectId) (slot attr : ℕ) (p : Part) → is_stmt (assignment slot attr p) ≡ true → part_text reads (assignment slot attr p) ≡ set_part reads slot attr (part_text reads p)
assignment_part reads slot attr (Expression a) h = set_text_is slot attr a reads
assignment_part reads slot attr p h = absurd cc

pub choice_part : (reads : List ObjectId) (p q r : Part) → is_stmt (choice p q r) ≡ true → part_text reads (choice p q r) ≡ if_part (part_text reads p) (part_text reads q) (else_part reads r)
choice_part reads (Condition c) (Block xs) (Block ys) h = if_text c xs ys reads
choice_part reads p q r h = absurd cc

pub ruleset texts = (lit_part, attr_part, binary_part, comparison_part, connective_part, negated_part, assignment_part, choice_part)

-- ---- blocks

pub braced : (reads : List ObjectId) (p : Part) → is_block p ≡ true → part_text reads p ≡ block_part (run_text reads p)
braced reads (Block xs) h = refl
braced reads p h = absurd cc

-- An empty block behind the first has no text.
else_more : (reads : List ObjectId) (p q : Part) → is_block (with_statement p q) ≡ true → else_part reads (with_statement p q) ≡ other_part (run_text reads (with_statement p q))
else_more reads (Statement s) (Block xs) h = refl
else_more reads p q h = absurd cc

pub else_some : (reads : List ObjectId) (n : ℕ) (ps : List Part) → 0 < n → is_block (block n ps) ≡ true → else_part reads (block n ps) ≡ other_part (run_text reads (block n ps))
else_some reads zero ps some h = absurd (omega (arith, some))
else_some reads (suc n) [] some h = absurd cc
else_some reads (suc n) (p ∷ ps) some h = else_more reads p (block n ps) h

-- One statement more of a block.
pub record IsMore (reads : List ObjectId) (n : ℕ) (ps : List Part) : Type 0 where
  pub stmt : is_stmt (first ps) ≡ true
  pub others : is_block (block n (drop 1 ps)) ≡ true
  pub text : run_text reads (block (suc n) ps) ≡ (32 ∷ part_text reads (first ps)) ++ run_text reads (block n (drop 1 ps))
  pub behind : drop (suc n) ps ≡ drop n (drop 1 ps)

more_with : (reads : List ObjectId) (p q : Part) → is_block (with_statement p q) ≡ true → (is_stmt p ≡ true) × (is_block q ≡ true) × (run_text reads (with_statement p q) ≡ (32 ∷ part_text reads p) ++ run_text reads q)
more_with reads (Statement s) (Block xs) h = (refl, refl, flat_map-cons (λ text. 32 ∷ text) (stmt_text reads s) (map (stmt_text reads) xs))
more_with reads p q h = absurd cc

pub more : (reads : List ObjectId) (n : ℕ) (ps : List Part) → is_block (block (suc n) ps) ≡ true → IsMore reads n ps
more reads n [] h = absurd cc
more reads n (p ∷ ps) h = let m = more_with reads p (block n ps) h in record { stmt = m.0; others = m.1; text = m.2; behind = refl }

-- what is printed so far and what is left are all
pub run_turn : (reads : List ObjectId) (n : ℕ) (ps qs : List Part) (front mid after total : List ℕ) → IsMore reads n ps → qs ≡ drop 1 ps → mid ≡ front ++ 32 ∷ [] → after ≡ mid ++ part_text reads (first ps)
    → front ++ run_text reads (block (suc n) ps) ≡ total → after ++ run_text reads (block n qs) ≡ total
run_turn reads n ps qs front mid after total m rest space put told =
    let t = part_text reads (first ps) in
    let r = run_text reads (block n (drop 1 ps)) in
    let all : ((front ++ 32 ∷ []) ++ t) ++ r ≡ total = append_assoc (front ++ 32 ∷ []) t r ∙ append_assoc front (32 ∷ []) (t ++ r) ∙ ap (λ (l : List ℕ). front ++ l) (sym m.text) ∙ told in
    rw (put, space, rest) all
