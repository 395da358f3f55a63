-- How many statements a block has.
use Rattle.std.proofs.Common.{◌≡◌, ℕ, zero, suc, List, [], ◌∷◌, length, refl, sym, ap, ◌∙◌}
use Rattle.sv_world.specs.declared.action.Stmt.{Stmt}
use Rattle.sv_world.specs.Parts.{Part, Expression, Condition, Statement, Block, Bad, with_statement, block}

-- a part is the block behind a first statement
record Behind (q : Part) (xs : List Stmt) : Type 0 where
  statement : Stmt
  rest : List Stmt
  is : q ≡ Block rest
  whole : xs ≡ statement ∷ rest

behind : (p q : Part) (xs : List Stmt) → with_statement p q ≡ Block xs → Behind q xs
behind (Statement s) (Block ys) xs e = record { statement = s; rest = ys; is = refl; whole = cc }
behind (Statement s) (Expression a) xs e = absurd cc
behind (Statement s) (Condition a) xs e = absurd cc
behind (Statement s) (Statement a) xs e = absurd cc
behind (Statement s) Bad xs e = absurd cc
behind (Expression a) q xs e = absurd cc
behind (Condition a) q xs e = absurd cc
behind (Block a) q xs e = absurd cc
behind Bad q xs e = absurd cc

pub statements_counted : (n : ℕ) (ps : List Part) (xs : List Stmt) → block n ps ≡ Block xs → n ≡ length xs
statements_counted zero ps xs e = let h : [] ≡ xs = cc in ap length h
statements_counted (suc n) [] xs e = absurd cc
statements_counted (suc n) (p ∷ ps) xs e = let b = behind p (block n ps) xs e in ap suc (statements_counted n ps b.rest b.is) ∙ sym (ap length b.whole)
