-- Where a node may start, its parts stand one less deep.
use Rattle.std.proofs.Common.{◌≡◌, ℕ, zero, suc, ◌-◌, true, false, cond, ltb, List, Result, Ok, Err, refl, sym, ap, arith}
use Rattle.sv_world.specs.declared.action.Expr.{Expr}
use Rattle.sv_world.specs.declared.action.Cond.{Cond}
use Rattle.sv_world.specs.declared.action.Stmt.{Stmt}
use Rattle.sv_text.specs.declared.fault.TextCause.TheVariants as causes
use Rattle.sv_text.specs.declared.fault.TextFault.{TextFault}
use Rattle.sv_text.specs.declared.token.Mark.TheVariants as marks
use Rattle.sv_world.specs.declared.world.ObjectId.{ObjectId}
use Rattle.sv_text.specs.declared.token.Lexeme.{Lexeme}
use Rattle.sv_text.specs.Reading.{◌>>=◌, Read, fault, rest_of, is_at, start, leaf_at, pair_by, compare_by, join_by, not_by, set_by, if_by, nowhere, expr_by, expr_at, cond_by, cond_at, stmt_by, stmt_at, block_by}

less_one : (n : ℕ) → suc n - 1 ≡ n
less_one n = omega arith

-- where no node may start, it does not matter what its parts would be
no_start : {A : Type 0} (nodes : ℕ) (ts : List Lexeme) (f g : ℕ → Result A TextFault) → (start 0 nodes ts >>= f) ≡ (start 0 nodes ts >>= g)
unfolding start
no_start nodes ts f g = elim (ltb nodes 64) as (λ b. (cond b (Err (fault ts causes.TooDeep)) (Err (fault ts causes.TooLarge)) >>= f) ≡ (cond b (Err (fault ts causes.TooDeep)) (Err (fault ts causes.TooLarge)) >>= g)) [ true ↦ refl | false ↦ refl ]

no_expr : (reads : List ObjectId) (f g : ℕ → List Lexeme → Read Expr) (nodes : ℕ) (ts : List Lexeme) → expr_by reads f 0 nodes ts ≡ expr_by reads g 0 nodes ts
unfolding expr_by
no_expr reads f g nodes ts = ap (λ (x : Read Expr). cond (is_at marks.Open ts) x (leaf_at reads ts >>= λ leaf. start 0 nodes ts >>= λ n. Ok (leaf, n, rest_of ts))) (no_start nodes ts (λ n. pair_by f n (rest_of ts)) (λ n. pair_by g n (rest_of ts)))

pub expr_at_is : (reads : List ObjectId) (depth nodes : ℕ) (ts : List Lexeme) → expr_at reads depth nodes ts ≡ expr_by reads (expr_at reads (depth - 1)) depth nodes ts
unfolding expr_at
expr_at_is reads zero nodes ts = no_expr reads nowhere (expr_at reads (0 - 1)) nodes ts
expr_at_is reads (suc depth) nodes ts = ap (λ (d : ℕ). expr_by reads (expr_at reads d) (suc depth) nodes ts) (sym (less_one depth))

no_cond : (e f : ℕ → List Lexeme → Read Expr) (c d : ℕ → List Lexeme → Read Cond) (nodes : ℕ) (ts : List Lexeme) → cond_by e c 0 nodes ts ≡ cond_by f d 0 nodes ts
unfolding cond_by
no_cond e f c d nodes ts =
    rw (
      no_start nodes ts (λ n. compare_by e n (rest_of ts)) (λ n. compare_by f n (rest_of ts)),
      no_start nodes ts (λ n. join_by c n (rest_of ts)) (λ n. join_by d n (rest_of ts)),
      no_start nodes ts (λ n. not_by c n (rest_of ts)) (λ n. not_by d n (rest_of ts)),
    ) refl

pub cond_at_is : (reads : List ObjectId) (depth nodes : ℕ) (ts : List Lexeme) → cond_at reads depth nodes ts ≡ cond_by (expr_at reads (depth - 1)) (cond_at reads (depth - 1)) depth nodes ts
unfolding cond_at
cond_at_is reads zero nodes ts = no_cond nowhere (expr_at reads (0 - 1)) nowhere (cond_at reads (0 - 1)) nodes ts
cond_at_is reads (suc depth) nodes ts = ap (λ (d : ℕ). cond_by (expr_at reads d) (cond_at reads d) (suc depth) nodes ts) (sym (less_one depth))

no_stmt : (reads : List ObjectId) (e f : ℕ → List Lexeme → Read Expr) (c d : ℕ → List Lexeme → Read Cond) (a b : ℕ → List Lexeme → Read (List Stmt)) (nodes : ℕ) (ts : List Lexeme)
    → stmt_by reads e c a 0 nodes ts ≡ stmt_by reads f d b 0 nodes ts
unfolding stmt_by
no_stmt reads e f c d a b nodes ts =
    rw (
      no_start nodes ts (λ n. set_by reads e n (rest_of ts)) (λ n. set_by reads f n (rest_of ts)),
      no_start nodes ts (λ n. if_by c a n (rest_of ts)) (λ n. if_by d b n (rest_of ts)),
    ) refl

pub stmt_at_is : (reads : List ObjectId) (depth nodes : ℕ) (ts : List Lexeme)
    → stmt_at reads depth nodes ts ≡ stmt_by reads (expr_at reads (depth - 1)) (cond_at reads (depth - 1)) (block_by (stmt_at reads (depth - 1))) depth nodes ts
unfolding stmt_at
stmt_at_is reads zero nodes ts = no_stmt reads nowhere (expr_at reads (0 - 1)) nowhere (cond_at reads (0 - 1)) nowhere (block_by (stmt_at reads (0 - 1))) nodes ts
stmt_at_is reads (suc depth) nodes ts = ap (λ (d : ℕ). stmt_by reads (expr_at reads d) (cond_at reads d) (block_by (stmt_at reads d)) (suc depth) nodes ts) (sym (less_one depth))
