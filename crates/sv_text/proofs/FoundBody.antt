-- What is read as a condition, a statement or a block is in the grammar.
use Rattle.std.proofs.Common.{◌≡◌, ℕ, zero, suc, ◌<◌, ◌⊎◌, inl, inr, cond, List, [], ◌∷◌, ◌++◌, Some, Ok, Err, refl, sym, ap, subst, ◌∙◌, append_assoc, arith}
use Rattle.std.proofs.lemmas.List.{append-nil}
use Rattle.sv_world.specs.declared.world.ObjectId.{ObjectId}
use Rattle.sv_world.specs.declared.action.Expr.{Expr}
use Rattle.sv_world.specs.declared.action.Cond.{Cond}
use Rattle.sv_world.specs.declared.action.Cond.TheVariants as test
use Rattle.sv_world.specs.declared.action.Stmt.{Stmt}
use Rattle.sv_world.specs.declared.action.Stmt.TheVariants as stmt
use Rattle.sv_world.specs.Parts.{compare_by as with_comparison, join_by as with_joint}
use Rattle.sv_text.specs.declared.fault.TextCause.TheVariants as causes
use Rattle.sv_text.specs.declared.token.Mark.{Mark}
use Rattle.sv_text.specs.declared.token.Mark.TheVariants as marks
use Rattle.sv_text.specs.declared.token.Token.{Token}
use Rattle.sv_text.specs.declared.token.Token.TheVariants as tokens
use Rattle.sv_text.specs.declared.token.Lexeme.{Lexeme}
use Rattle.sv_world.specs.declared.node.Comparison.{Comparison}
use Rattle.sv_world.specs.declared.node.Comparison.TheVariants as comparisons
use Rattle.sv_world.specs.declared.node.Connective.{Connective}
use Rattle.sv_world.specs.declared.node.Connective.TheVariants as joints
use Rattle.sv_text.specs.Reading.{◌>>=◌, Read, is_at, front, rest_of, fault, unexpected, expect, slot_at, start, marked, comparison_of, comparison_at, joint_of, joint_at, closed_by, compare_by, join_by, not_by, cond_by, nowhere, expr_at, cond_at, target_by, target_at, set_by, else_by, branches_by, if_by, stmts_by, block_by, stmt_by, stmt_at}
use Rattle.sv_text.specs.Grammar.{Place, Form, IsMark, IsNode, IsRef, comparison_mark, joint_mark, IsTest, IsJoined, IsNot, IsExpr, IsCond, AreAll, IsBlock, IsSet, MayBeElse, IsIf, IsStmt}
use Rattle.sv_text.proofs.Found.{bind_ok, chosen, ok_is, no_err, some_is, is_at_is, expect_is, part_is, marked_is, slot_at_is, node_is, Finds, nowhere_finds, closed_found, bracketed_found, expr_found}

abbrev Never : {A : Type 0} → Form A
Never a p q = ⊥

-- ---- conditions

comparison_mark_is : (m : Mark) (o : Comparison) → comparison_of m ≡ Some o → m ≡ comparison_mark o
comparison_mark_is marks.Equal o e = ap comparison_mark (some_is comparisons.Eq o e)
comparison_mark_is marks.Less o e = ap comparison_mark (some_is comparisons.Lt o e)
comparison_mark_is marks.LessEqual o e = ap comparison_mark (some_is comparisons.Le o e)
comparison_mark_is _ o e = absurd cc

comparison_at_is : (ts : List Lexeme) (o : Comparison) → comparison_at ts ≡ Ok o → front ts ≡ Some (comparison_mark o)
unfolding comparison_at
comparison_at_is ts o e =
    let q = marked_is comparison_of (front ts) o (part_is (unexpected ts) (marked comparison_of (front ts)) o e) in
    q.1 ∙ ap Some (comparison_mark_is q.0 o q.2)

joint_mark_is : (m : Mark) (o : Connective) → joint_of m ≡ Some o → m ≡ joint_mark o
joint_mark_is marks.And o e = ap joint_mark (some_is joints.And o e)
joint_mark_is marks.Or o e = ap joint_mark (some_is joints.Or o e)
joint_mark_is _ o e = absurd cc

joint_at_is : (ts : List Lexeme) (o : Connective) → joint_at ts ≡ Ok o → front ts ≡ Some (joint_mark o)
unfolding joint_at
joint_at_is ts o e =
    let q = marked_is joint_of (front ts) o (part_is (unexpected ts) (marked joint_of (front ts)) o e) in
    q.1 ∙ ap Some (joint_mark_is q.0 o q.2)

compare_found : (exprs : ℕ → List Lexeme → Read Expr) (form : Form Expr) → Finds exprs form → (p : Place) (nodes : ℕ) (ts : List Lexeme) (x : Cond × ℕ × List Lexeme)
    → IsNode marks.OpenTest p (nodes, ts) → compare_by exprs nodes ts ≡ Ok x → IsTest form x.0 p (x.1, x.2)
unfolding compare_by
compare_found exprs form found p nodes ts x opened e = bracketed_found comparison_at comparison_mark comparison_at_is with_comparison marks.OpenTest marks.CloseTest exprs form found p nodes ts x opened e

join_found : (below : ℕ → List Lexeme → Read Cond) (form : Form Cond) → Finds below form → (p : Place) (nodes : ℕ) (ts : List Lexeme) (x : Cond × ℕ × List Lexeme)
    → IsNode marks.Open p (nodes, ts) → join_by below nodes ts ≡ Ok x → IsJoined form x.0 p (x.1, x.2)
unfolding join_by
join_found below form found p nodes ts x opened e = bracketed_found joint_at joint_mark joint_at_is with_joint marks.Open marks.Close below form found p nodes ts x opened e

not_found : (below : ℕ → List Lexeme → Read Cond) (form : Form Cond) → Finds below form → (p : Place) (nodes : ℕ) (ts : List Lexeme) (x : Cond × ℕ × List Lexeme)
    → IsNode marks.Not p (nodes, ts) → not_by below nodes ts ≡ Ok x → IsNot form x.0 p (x.1, x.2)
unfolding not_by
not_found below form found p nodes ts x opened e =
    let a = bind_ok (below nodes ts) (λ a. Ok (test.Not a.0, a.1, a.2)) x e in
    let made : Cond × ℕ × List Lexeme = (test.Not a.0.0, a.0.1, a.0.2) in
    subst (λ (y : Cond × ℕ × List Lexeme). IsNot form y.0 p (y.1, y.2)) (ok_is made x a.2)
    (record { a = a.0.0; made = refl; inside = (nodes, ts); opened = opened; part = found nodes ts a.0 a.1 })

abbrev CondForms : Form Expr → Form Cond → Cond → Place → Place → Type 0
CondForms exprs form c p q = IsTest exprs c p q ⊎ (IsJoined form c p q ⊎ IsNot form c p q)

cond_by_found : (exprs : ℕ → List Lexeme → Read Expr) (below : ℕ → List Lexeme → Read Cond) (values : Form Expr) (form : Form Cond) → Finds exprs values → Finds below form
    → (depth nodes : ℕ) (ts : List Lexeme) (x : Cond × ℕ × List Lexeme) → cond_by exprs below depth nodes ts ≡ Ok x → (0 < depth) × CondForms values form x.0 (nodes, ts) (x.1, x.2)
unfolding cond_by
cond_by_found exprs below values form in_exprs in_below depth nodes ts x e =
    elim (chosen (is_at marks.OpenTest ts) (start depth nodes ts >>= λ n. compare_by exprs n (rest_of ts)) (cond (is_at marks.Open ts) (start depth nodes ts >>= λ n. join_by below n (rest_of ts)) (cond (is_at marks.Not ts) (start depth nodes ts >>= λ n. not_by below n (rest_of ts)) (Err (unexpected ts)))) (Ok x) e) [
      | inl h ↦
          let s = bind_ok (start depth nodes ts) (λ n. compare_by exprs n (rest_of ts)) x h.1 in
          let k = node_is marks.OpenTest depth nodes ts s.0 h.0 s.1 in
          (k.0, inl (compare_found exprs values in_exprs (nodes, ts) s.0 (rest_of ts) x k.1 s.2))
      | inr g ↦ elim (chosen (is_at marks.Open ts) (start depth nodes ts >>= λ n. join_by below n (rest_of ts)) (cond (is_at marks.Not ts) (start depth nodes ts >>= λ n. not_by below n (rest_of ts)) (Err (unexpected ts))) (Ok x) g.1) [
        | inl h ↦
            let s = bind_ok (start depth nodes ts) (λ n. join_by below n (rest_of ts)) x h.1 in
            let k = node_is marks.Open depth nodes ts s.0 h.0 s.1 in
            (k.0, inr (inl (join_found below form in_below (nodes, ts) s.0 (rest_of ts) x k.1 s.2)))
        | inr f ↦ elim (chosen (is_at marks.Not ts) (start depth nodes ts >>= λ n. not_by below n (rest_of ts)) (Err (unexpected ts)) (Ok x) f.1) [
          | inl h ↦
              let s = bind_ok (start depth nodes ts) (λ n. not_by below n (rest_of ts)) x h.1 in
              let k = node_is marks.Not depth nodes ts s.0 h.0 s.1 in
              (k.0, inr (inr (not_found below form in_below (nodes, ts) s.0 (rest_of ts) x k.1 s.2)))
          | inr h ↦ no_err (unexpected ts) x h.1
        ]
      ]
    ]

pub cond_found : (reads : List ObjectId) (depth : ℕ) → Finds (cond_at reads depth) (IsCond reads depth)
unfolding cond_at
cond_found reads zero nodes ts x e = let f = cond_by_found nowhere nowhere Never Never (nowhere_finds Never) (nowhere_finds Never) 0 nodes ts x e in absurd (omega (arith, f.0))
cond_found reads (suc depth) nodes ts x e = (cond_by_found (expr_at reads depth) (cond_at reads depth) (IsExpr reads depth) (IsCond reads depth) (expr_found reads depth) (cond_found reads depth) (suc depth) nodes ts x e).1

-- ---- statements

target_by_is : (reads : List ObjectId) (t : Lexeme) (ts : List Lexeme) (x : ℕ × ℕ) (token : Token) → t.token ≡ token → target_by reads (t ∷ ts) token ≡ Ok x → IsRef reads x.0 x.1 (t ∷ ts) ts
target_by_is reads t ts x (tokens.Number z) k h = no_err _ x h
target_by_is reads t ts x tokens.Wide k h = no_err _ x h
target_by_is reads t ts x (tokens.Ref object attr) k h =
    let s = bind_ok (slot_at reads object (t ∷ ts)) (λ slot. Ok (slot, attr)) x h in
    subst (λ (y : ℕ × ℕ). IsRef reads y.0 y.1 (t ∷ ts) ts) (ok_is (s.0, attr) x s.2) (object, slot_at_is reads object (t ∷ ts) s.0 s.1, k, refl)
target_by_is reads t ts x (tokens.Mark m) k h = no_err _ x h
target_by_is reads t ts x (tokens.Bad cause) k h = no_err _ x h

target_at_is : (reads : List ObjectId) (ts : List Lexeme) (x : ℕ × ℕ) → target_at reads ts ≡ Ok x → IsRef reads x.0 x.1 ts (rest_of ts)
unfolding target_at
target_at_is reads [] x h = no_err _ x h
target_at_is reads (t ∷ ts) x h = target_by_is reads t ts x t.token refl h

set_found : (reads : List ObjectId) (exprs : ℕ → List Lexeme → Read Expr) (form : Form Expr) → Finds exprs form → (p : Place) (nodes : ℕ) (ts : List Lexeme) (x : Stmt × ℕ × List Lexeme)
    → IsNode marks.Set p (nodes, ts) → set_by reads exprs nodes ts ≡ Ok x → IsSet reads form x.0 p (x.1, x.2)
unfolding set_by
set_found reads exprs form found p nodes ts x word e =
    let t = bind_ok (target_at reads ts) (λ t. closed_by exprs marks.Semicolon nodes (rest_of ts) >>= λ v. Ok (stmt.Set t.0 t.1 v.0, v.1, v.2)) x e in
    let v = bind_ok (closed_by exprs marks.Semicolon nodes (rest_of ts)) (λ v. Ok (stmt.Set t.0.0 t.0.1 v.0, v.1, v.2)) x t.2 in
    let k = closed_found exprs form found marks.Semicolon nodes (rest_of ts) v.0 v.1 in
    let made : Stmt × ℕ × List Lexeme = (stmt.Set t.0.0 t.0.1 v.0.0, v.0.1, v.0.2) in
    subst (λ (y : Stmt × ℕ × List Lexeme). IsSet reads form y.0 p (y.1, y.2)) (ok_is made x v.2) (record {
      slot = t.0.0;
      attr = t.0.1;
      e = v.0.0;
      made = refl;
      one = (nodes, ts);
      two = rest_of ts;
      three = k.0;
      word = word;
      target = target_at_is reads ts t.0 t.1;
      value = k.1;
      closed = k.2;
    })

-- what follows the statements before, up to the end of the block
abbrev Further : Form Stmt → List Stmt → Place → List Stmt → Place → Type 0
Further form before p body q = (more : List Stmt) × (before ++ more ≡ body) × (end : Place) × AreAll form more p end × IsMark marks.CloseBlock end q

stmts_found : (stmts : ℕ → List Lexeme → Read Stmt) (form : Form Stmt) → Finds stmts form → (turns : ℕ) (before : List Stmt) (nodes : ℕ) (ts : List Lexeme) (x : List Stmt × ℕ × List Lexeme)
    → stmts_by stmts turns before nodes ts ≡ Ok x → Further form before (nodes, ts) x.0 (x.1, x.2)
unfolding stmts_by
stmts_found stmts form found zero before nodes ts x e = no_err (fault ts causes.TooLarge) x e
stmts_found stmts form found (suc turns) before nodes ts x e =
    elim (chosen (is_at marks.CloseBlock ts) (Ok (before, nodes, rest_of ts)) (stmts nodes ts >>= λ s. stmts_by stmts turns (before ++ s.0 ∷ []) s.1 s.2) (Ok x) e) [
      | inl h ↦
          let made : List Stmt × ℕ × List Lexeme = (before, nodes, rest_of ts) in
          subst (λ (y : List Stmt × ℕ × List Lexeme). Further form before (nodes, ts) y.0 (y.1, y.2)) (ok_is made x h.1)
          ([], append-nil before, (nodes, ts), refl, (is_at_is marks.CloseBlock ts h.0, refl))
      | inr h ↦
          let s = bind_ok (stmts nodes ts) (λ s. stmts_by stmts turns (before ++ s.0 ∷ []) s.1 s.2) x h.1 in
          let r = stmts_found stmts form found turns (before ++ s.0.0 ∷ []) s.0.1 s.0.2 x s.2 in
          (s.0.0 ∷ r.0, sym (append_assoc before (s.0.0 ∷ []) r.0) ∙ r.1, r.2, ((s.0.1, s.0.2), found nodes ts s.0 s.1, r.3), r.4)
    ]

block_found : (stmts : ℕ → List Lexeme → Read Stmt) (form : Form Stmt) → Finds stmts form → Finds (block_by stmts) (IsBlock form)
unfolding block_by
block_found stmts form found nodes ts x e =
    let o = bind_ok (expect marks.OpenBlock ts) (λ rest. stmts_by stmts 65 [] nodes rest) x e in
    let c = expect_is marks.OpenBlock ts o.0 o.1 in
    let s = stmts_found stmts form found 65 [] nodes o.0 x o.2 in
    record {
      inside = (nodes, o.0);
      end = s.2;
      opened = (c.0, ap (λ (l : List Lexeme). (nodes, l)) c.1);
      stmts = subst (λ (body : List Stmt). AreAll form body (nodes, o.0) s.2) s.1 s.3;
      closed = s.4;
    }

else_found : (blocks : ℕ → List Lexeme → Read (List Stmt)) (form : Form Stmt) → Finds blocks (IsBlock form) → Finds (else_by blocks) (MayBeElse form)
unfolding else_by
else_found blocks form found nodes ts x e =
    elim (chosen (is_at marks.Else ts) (blocks nodes (rest_of ts)) (Ok ([], nodes, ts)) (Ok x) e) [
      | inl h ↦ inl (record { inside = (nodes, rest_of ts); word = (is_at_is marks.Else ts h.0, refl); block = found nodes (rest_of ts) x h.1 })
      | inr h ↦
          let made : List Stmt × ℕ × List Lexeme = ([], nodes, ts) in
          subst (λ (y : List Stmt × ℕ × List Lexeme). MayBeElse form y.0 (nodes, ts) (y.1, y.2)) (ok_is made x h.1) (inr (refl, refl))
    ]

if_found : (conds : ℕ → List Lexeme → Read Cond) (blocks : ℕ → List Lexeme → Read (List Stmt)) (tests : Form Cond) (form : Form Stmt) → Finds conds tests → Finds blocks (IsBlock form)
    → (p : Place) (nodes : ℕ) (ts : List Lexeme) (x : Stmt × ℕ × List Lexeme) → IsNode marks.If p (nodes, ts) → if_by conds blocks nodes ts ≡ Ok x → IsIf tests form x.0 p (x.1, x.2)
unfolding if_by branches_by
if_found conds blocks tests form in_conds in_blocks p nodes ts x word e =
    let c = bind_ok (conds nodes ts) (λ c. branches_by blocks c.1 c.2 >>= λ b. Ok (stmt.If c.0 b.0.0 b.0.1, b.1, b.2)) x e in
    let b = bind_ok (branches_by blocks c.0.1 c.0.2) (λ b. Ok (stmt.If c.0.0 b.0.0 b.0.1, b.1, b.2)) x c.2 in
    let a = bind_ok (blocks c.0.1 c.0.2) (λ a. else_by blocks a.1 a.2 >>= λ o. Ok ((a.0, o.0), o.1, o.2)) b.0 b.1 in
    let o = bind_ok (else_by blocks a.0.1 a.0.2) (λ o. Ok ((a.0.0, o.0), o.1, o.2)) b.0 a.2 in
    let two : (List Stmt × List Stmt) × ℕ × List Lexeme = ((a.0.0, o.0.0), o.0.1, o.0.2) in
    let made : Stmt × ℕ × List Lexeme = (stmt.If c.0.0 a.0.0 o.0.0, o.0.1, o.0.2) in
    let is_made : made ≡ x = ap (λ (y : (List Stmt × List Stmt) × ℕ × List Lexeme). (stmt.If c.0.0 y.0.0 y.0.1, y.1, y.2)) (ok_is two b.0 o.2) ∙ ok_is (stmt.If c.0.0 b.0.0.0 b.0.0.1, b.0.1, b.0.2) x b.2 in
    subst (λ (y : Stmt × ℕ × List Lexeme). IsIf tests form y.0 p (y.1, y.2)) is_made (record {
      c = c.0.0;
      body = a.0.0;
      other = o.0.0;
      made = refl;
      one = (nodes, ts);
      two = (c.0.1, c.0.2);
      three = (a.0.1, a.0.2);
      word = word;
      test = in_conds nodes ts c.0 c.1;
      block = in_blocks c.0.1 c.0.2 a.0 a.1;
      behind = else_found blocks form in_blocks a.0.1 a.0.2 o.0 o.1;
    })

abbrev StmtForms : List ObjectId → Form Expr → Form Cond → Form Stmt → Stmt → Place → Place → Type 0
StmtForms reads exprs tests form s p q = IsSet reads exprs s p q ⊎ IsIf tests form s p q

stmt_by_found : (reads : List ObjectId) (exprs : ℕ → List Lexeme → Read Expr) (conds : ℕ → List Lexeme → Read Cond) (blocks : ℕ → List Lexeme → Read (List Stmt)) (values : Form Expr) (tests : Form Cond) (form : Form Stmt)
    → Finds exprs values → Finds conds tests → Finds blocks (IsBlock form) → (depth nodes : ℕ) (ts : List Lexeme) (x : Stmt × ℕ × List Lexeme)
    → stmt_by reads exprs conds blocks depth nodes ts ≡ Ok x → (0 < depth) × StmtForms reads values tests form x.0 (nodes, ts) (x.1, x.2)
unfolding stmt_by
stmt_by_found reads exprs conds blocks values tests form in_exprs in_conds in_blocks depth nodes ts x e =
    elim (chosen (is_at marks.Set ts) (start depth nodes ts >>= λ n. set_by reads exprs n (rest_of ts)) (cond (is_at marks.If ts) (start depth nodes ts >>= λ n. if_by conds blocks n (rest_of ts)) (Err (unexpected ts))) (Ok x) e) [
      | inl h ↦
          let s = bind_ok (start depth nodes ts) (λ n. set_by reads exprs n (rest_of ts)) x h.1 in
          let k = node_is marks.Set depth nodes ts s.0 h.0 s.1 in
          (k.0, inl (set_found reads exprs values in_exprs (nodes, ts) s.0 (rest_of ts) x k.1 s.2))
      | inr g ↦ elim (chosen (is_at marks.If ts) (start depth nodes ts >>= λ n. if_by conds blocks n (rest_of ts)) (Err (unexpected ts)) (Ok x) g.1) [
        | inl h ↦
            let s = bind_ok (start depth nodes ts) (λ n. if_by conds blocks n (rest_of ts)) x h.1 in
            let k = node_is marks.If depth nodes ts s.0 h.0 s.1 in
            (k.0, inr (if_found conds blocks tests form in_conds in_blocks (nodes, ts) s.0 (rest_of ts) x k.1 s.2))
        | inr h ↦ no_err (unexpected ts) x h.1
      ]
    ]

pub stmt_found : (reads : List ObjectId) (depth : ℕ) → Finds (stmt_at reads depth) (IsStmt reads depth)
unfolding stmt_at
stmt_found reads zero nodes ts x e = let f = stmt_by_found reads nowhere nowhere nowhere Never Never Never (nowhere_finds Never) (nowhere_finds Never) (nowhere_finds (IsBlock Never)) 0 nodes ts x e in absurd (omega (arith, f.0))
stmt_found reads (suc depth) nodes ts x e =
    (stmt_by_found reads (expr_at reads depth) (cond_at reads depth) (block_by (stmt_at reads depth)) (IsExpr reads depth) (IsCond reads depth) (IsStmt reads depth)
    (expr_found reads depth) (cond_found reads depth) (block_found (stmt_at reads depth) (IsStmt reads depth) (stmt_found reads depth)) (suc depth) nodes ts x e).1

pub body_found : (reads : List ObjectId) (depth : ℕ) → Finds (block_by (stmt_at reads depth)) (IsBlock (IsStmt reads depth))
body_found reads depth = block_found (stmt_at reads depth) (IsStmt reads depth) (stmt_found reads depth)
