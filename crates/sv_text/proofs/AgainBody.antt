-- A statement or block of the grammar is read.
use Rattle.std.proofs.Common.{◌≡◌, ℕ, zero, suc, ◌+◌, ◌<◌, ◌≤◌, ◌⊎◌, inl, inr, Bool, false, cond, List, [], ◌∷◌, ◌++◌, Some, Ok, Err, refl, sym, ap, ◌∙◌, append_assoc, arith}
use Rattle.std.proofs.lemmas.List.{append-nil}
use Rattle.sv_world.specs.declared.world.ObjectId.{ObjectId}
use Rattle.sv_world.specs.declared.action.Expr.{Expr}
use Rattle.sv_world.specs.declared.action.Cond.{Cond}
use Rattle.sv_world.specs.declared.action.Stmt.{Stmt}
use Rattle.sv_world.specs.declared.action.Stmt.TheVariants as stmt
use Rattle.sv_text.specs.declared.token.Mark.TheVariants as marks
use Rattle.sv_text.specs.declared.token.Lexeme.{Lexeme}
use Rattle.sv_text.specs.Reading.{◌>>=◌, Read, is_at, front, rest_of, unexpected, expect, slot_at, start, closed_by, target_by, target_at, set_by, else_by, branches_by, if_by, stmts_by, block_by, stmt_by, expr_at, cond_at, stmt_at}
use Rattle.sv_text.specs.Grammar.{Place, Form, IsMark, IsRef, IsExpr, IsCond, AreAll, IsBlock, IsSet, MayBeElse, IsIf, IsStmt}
use Rattle.sv_text.proofs.Again.{then_ok, gives, Reads, Grows, at_mark, not_at, expect_again, started, slot_again, closed_again, expr_again, expr_grows, cond_again, cond_grows, mark_stays, node_counts}

-- no `else` stands here
abbrev pub NoElse : Place → Type 0
NoElse q = is_at marks.Else q.1 ≡ false

-- what has the form is read where no `else` follows
abbrev pub ReadsBefore : (ℕ → List Lexeme → Read Stmt) → Form Stmt → Type 0
ReadsBefore read form = (s : Stmt) (p q : Place) → form s p q → NoElse q → read p.0 p.1 ≡ gives s q

abbrev pub ReadsBlock : (ℕ → List Lexeme → Read (List Stmt)) → Form Stmt → Type 0
ReadsBlock read form = (body : List Stmt) (p q : Place) → p.0 ≤ 64 → IsBlock form body p q → read p.0 p.1 ≡ gives body q

-- a statement starts with its word
abbrev pub Begins : Form Stmt → Type 0
Begins form = (s : Stmt) (p q : Place) → form s p q → (front p.1 ≡ Some marks.Set) ⊎ (front p.1 ≡ Some marks.If)

no_close : (ts : List Lexeme) → (front ts ≡ Some marks.Set) ⊎ (front ts ≡ Some marks.If) → is_at marks.CloseBlock ts ≡ false
no_close ts (inl h) = not_at marks.CloseBlock marks.Set ts h refl
no_close ts (inr h) = not_at marks.CloseBlock marks.If ts h refl

no_else : (q : Place) → (front q.1 ≡ Some marks.Set) ⊎ (front q.1 ≡ Some marks.If) → NoElse q
no_else q (inl h) = not_at marks.Else marks.Set q.1 h refl
no_else q (inr h) = not_at marks.Else marks.If q.1 h refl

-- ---- how far the forms go

all_grow : (form : Form Stmt) → Grows form → (body : List Stmt) (p q : Place) → p.0 ≤ 64 → AreAll form body p q → (p.0 ≤ q.0) × (q.0 ≤ 64)
all_grow form grows [] p q few h = let e : p.0 ≡ q.0 = ap (λ (s : Place). s.0) h in (omega arith, omega arith)
all_grow form grows (s ∷ ss) p q few h =
    let one = grows s p h.0 h.1 in
    let more = all_grow form grows ss h.0 q one.1 h.2 in
    (omega (arith, one.0, more.0), more.1)

block_grows : (form : Form Stmt) → Grows form → (body : List Stmt) (p q : Place) → p.0 ≤ 64 → IsBlock form body p q → (p.0 ≤ q.0) × (q.0 ≤ 64)
block_grows form grows body p q few b =
    let e = mark_stays marks.OpenBlock p b.inside b.opened in
    let f = mark_stays marks.CloseBlock b.end q b.closed in
    let more = all_grow form grows body b.inside b.end (omega (arith, e)) b.stmts in
    (omega (arith, e, f, more.0), omega (arith, f, more.1))

else_grows : (form : Form Stmt) → Grows form → (body : List Stmt) (p q : Place) → p.0 ≤ 64 → MayBeElse form body p q → (p.0 ≤ q.0) × (q.0 ≤ 64)
else_grows form grows body p q few (inl i) =
    let e = mark_stays marks.Else p i.inside i.word in
    let b = block_grows form grows body i.inside q (omega (arith, e)) i.block in
    (omega (arith, e, b.0), b.1)
else_grows form grows body p q few (inr h) = let e : p.0 ≡ q.0 = ap (λ (s : Place). s.0) h.1 in (omega arith, omega arith)

set_grows : (reads : List ObjectId) (form : Form Expr) → Grows form → (s : Stmt) (p q : Place) → IsSet reads form s p q → (p.0 < q.0) × (q.0 ≤ 64)
set_grows reads form grows s p q i =
    let n = node_counts marks.Set p i.one i.word in
    let v = grows i.e (i.one.0, i.two) i.three i.value in
    let f = mark_stays marks.Semicolon i.three q i.closed in
    let less : i.one.0 < i.three.0 = v.0 in
    (omega (arith, n.0, less, f), omega (arith, f, v.1))

if_grows : (tests : Form Cond) (form : Form Stmt) → Grows tests → Grows form → (s : Stmt) (p q : Place) → IsIf tests form s p q → (p.0 < q.0) × (q.0 ≤ 64)
if_grows tests form in_tests in_form s p q i =
    let n = node_counts marks.If p i.one i.word in
    let t = in_tests i.c i.one i.two i.test in
    let b = block_grows form in_form i.body i.two i.three t.1 i.block in
    let o = else_grows form in_form i.other i.three q b.1 i.behind in
    (omega (arith, n.0, t.0, b.0, o.0), o.1)

stmt_grows : (reads : List ObjectId) (depth : ℕ) → Grows (IsStmt reads depth)
stmt_grows reads zero s p q h = absurd h
stmt_grows reads (suc depth) s p q (inl i) = set_grows reads (IsExpr reads depth) (expr_grows reads depth) s p q i
stmt_grows reads (suc depth) s p q (inr i) = if_grows (IsCond reads depth) (IsStmt reads depth) (cond_grows reads depth) (stmt_grows reads depth) s p q i

stmt_begins : (reads : List ObjectId) (depth : ℕ) → Begins (IsStmt reads depth)
stmt_begins reads zero s p q h = absurd h
stmt_begins reads (suc depth) s p q (inl i) = inl i.word.0
stmt_begins reads (suc depth) s p q (inr i) = inr i.word.0

-- ---- statements

target_again : (reads : List ObjectId) (k a : ℕ) (ts rest : List Lexeme) → IsRef reads k a ts rest → (target_at reads ts ≡ Ok (k, a)) × (rest_of ts ≡ rest)
unfolding target_at
target_again reads k a [] rest h = absurd h
target_again reads k a (t ∷ ts) rest h =
    (ap (target_by reads (t ∷ ts)) h.2 ∙ then_ok (slot_at reads h.0 (t ∷ ts)) (λ k. Ok (k, a)) k (Ok (k, a)) (slot_again reads h.0 (t ∷ ts) k h.1) refl, h.3)

set_again : (reads : List ObjectId) (exprs : ℕ → List Lexeme → Read Expr) (form : Form Expr) → Reads exprs form → (s : Stmt) (p q : Place) (i : IsSet reads form s p q) → set_by reads exprs i.one.0 i.one.1 ≡ gives s q
unfolding set_by
set_again reads exprs form again s p q i =
    let t = target_again reads i.slot i.attr i.one.1 i.two i.target in
    let made : Stmt = stmt.Set i.slot i.attr i.e in
    then_ok (target_at reads i.one.1) (λ t. closed_by exprs marks.Semicolon i.one.0 (rest_of i.one.1) >>= λ v. Ok (stmt.Set t.0 t.1 v.0, v.1, v.2)) (i.slot, i.attr) (gives s q) t.0
    (then_ok (closed_by exprs marks.Semicolon i.one.0 (rest_of i.one.1)) (λ v. Ok (stmt.Set i.slot i.attr v.0, v.1, v.2)) (i.e, q.0, q.1) (gives s q)
    (ap (λ (l : List Lexeme). closed_by exprs marks.Semicolon i.one.0 l) t.1 ∙ closed_again exprs marks.Semicolon i.e (i.one.0, i.two) i.three q (again i.e (i.one.0, i.two) i.three i.value) i.closed)
    (ap (λ (x : Stmt). gives x q) i.made))

follows : (form : Form Stmt) → Begins form → (body : List Stmt) (p end q : Place) → AreAll form body p end → IsMark marks.CloseBlock end q → NoElse p
follows form begins [] p end q h c = not_at marks.Else marks.CloseBlock p.1 (ap (λ (s : Place). front s.1) h ∙ c.0) refl
follows form begins (s ∷ ss) p end q h c = no_else p (begins s p h.0 h.1)

stmts_again : (stmts : ℕ → List Lexeme → Read Stmt) (form : Form Stmt) → ReadsBefore stmts form → Grows form → Begins form → (turns : ℕ) (before more : List Stmt) (p end q : Place)
    → 64 < turns + p.0 → p.0 ≤ 64 → AreAll form more p end → IsMark marks.CloseBlock end q → stmts_by stmts turns before p.0 p.1 ≡ gives (before ++ more) q
unfolding stmts_by
stmts_again stmts form again grows begins zero before more p end q enough few h c = absurd (omega arith)
stmts_again stmts form again grows begins (suc turns) before [] p end q enough few h c =
    ap (λ (b : Bool). cond b (Ok (before, p.0, rest_of p.1)) (stmts p.0 p.1 >>= λ s. stmts_by stmts turns (before ++ s.0 ∷ []) s.1 s.2)) (at_mark marks.CloseBlock p.1 (ap (λ (s : Place). front s.1) h ∙ c.0))
    ∙ ap (gives before) (ap (λ (s : Place). let r : Place = (s.0, rest_of s.1) in r) h ∙ c.1)
    ∙ ap (λ (l : List Stmt). gives l q) (sym (append-nil before))
stmts_again stmts form again grows begins (suc turns) before (s ∷ ss) p end q enough few h c =
    let one = grows s p h.0 h.1 in
    ap (λ (b : Bool). cond b (Ok (before, p.0, rest_of p.1)) (stmts p.0 p.1 >>= λ s. stmts_by stmts turns (before ++ s.0 ∷ []) s.1 s.2)) (no_close p.1 (begins s p h.0 h.1))
    ∙ then_ok (stmts p.0 p.1) (λ s. stmts_by stmts turns (before ++ s.0 ∷ []) s.1 s.2) (s, h.0.0, h.0.1) (gives (before ++ s ∷ ss) q) (again s p h.0 h.1 (follows form begins ss h.0 end q h.2 c))
    (stmts_again stmts form again grows begins turns (before ++ s ∷ []) ss h.0 end q (omega (arith, one.0)) one.1 h.2 c ∙ ap (λ (l : List Stmt). gives l q) (append_assoc before (s ∷ []) ss))

block_again : (stmts : ℕ → List Lexeme → Read Stmt) (form : Form Stmt) → ReadsBefore stmts form → Grows form → Begins form → ReadsBlock (block_by stmts) form
unfolding block_by
block_again stmts form again grows begins body p q few b =
    let e = mark_stays marks.OpenBlock p b.inside b.opened in
    then_ok (expect marks.OpenBlock p.1) (λ rest. stmts_by stmts 65 [] p.0 rest) (rest_of p.1) (gives body q) (expect_again marks.OpenBlock p.1 b.opened.0)
    (ap (λ (s : Place). stmts_by stmts 65 [] s.0 s.1) b.opened.1 ∙ stmts_again stmts form again grows begins 65 [] body b.inside b.end q (omega arith) (omega (arith, e)) b.stmts b.closed)

else_again : (blocks : ℕ → List Lexeme → Read (List Stmt)) (form : Form Stmt) → ReadsBlock blocks form → (body : List Stmt) (p q : Place) → p.0 ≤ 64 → NoElse q → MayBeElse form body p q → else_by blocks p.0 p.1 ≡ gives body q
unfolding else_by
else_again blocks form again body p q few none (inl i) =
    let e = mark_stays marks.Else p i.inside i.word in
    ap (λ (b : Bool). cond b (blocks p.0 (rest_of p.1)) (Ok ([], p.0, p.1))) (at_mark marks.Else p.1 i.word.0)
    ∙ ap (λ (s : Place). blocks s.0 s.1) i.word.1 ∙ again body i.inside q (omega (arith, e)) i.block
else_again blocks form again body p q few none (inr h) =
    ap (λ (b : Bool). cond b (blocks p.0 (rest_of p.1)) (Ok ([], p.0, p.1))) (ap (λ (s : Place). is_at marks.Else s.1) h.1 ∙ none)
    ∙ ap (gives []) h.1 ∙ ap (λ (l : List Stmt). gives l q) (sym h.0)

branches_again : (blocks : ℕ → List Lexeme → Read (List Stmt)) (form : Form Stmt) → ReadsBlock blocks form → Grows form → (body other : List Stmt) (p three q : Place) → p.0 ≤ 64 → NoElse q → IsBlock form body p three → MayBeElse form other three q
    → branches_by blocks p.0 p.1 ≡ gives (body, other) q
unfolding branches_by
branches_again blocks form again grows body other p three q few none b o =
    let k = block_grows form grows body p three few b in
    then_ok (blocks p.0 p.1) (λ a. else_by blocks a.1 a.2 >>= λ o. Ok ((a.0, o.0), o.1, o.2)) (body, three.0, three.1) (gives (body, other) q) (again body p three few b)
    (then_ok (else_by blocks three.0 three.1) (λ o. Ok ((body, o.0), o.1, o.2)) (other, q.0, q.1) (gives (body, other) q) (else_again blocks form again other three q k.1 none o) refl)

if_again : (conds : ℕ → List Lexeme → Read Cond) (blocks : ℕ → List Lexeme → Read (List Stmt)) (tests : Form Cond) (form : Form Stmt) → Reads conds tests → Grows tests → ReadsBlock blocks form → Grows form
    → (s : Stmt) (p q : Place) (i : IsIf tests form s p q) → NoElse q → if_by conds blocks i.one.0 i.one.1 ≡ gives s q
unfolding if_by
if_again conds blocks tests form in_conds tests_grow in_blocks grows s p q i none =
    let t = tests_grow i.c i.one i.two i.test in
    then_ok (conds i.one.0 i.one.1) (λ c. branches_by blocks c.1 c.2 >>= λ b. Ok (stmt.If c.0 b.0.0 b.0.1, b.1, b.2)) (i.c, i.two.0, i.two.1) (gives s q) (in_conds i.c i.one i.two i.test)
    (then_ok (branches_by blocks i.two.0 i.two.1) (λ b. Ok (stmt.If i.c b.0.0 b.0.1, b.1, b.2)) ((i.body, i.other), q.0, q.1) (gives s q) (branches_again blocks form in_blocks grows i.body i.other i.two i.three q t.1 none i.block i.behind)
    (ap (λ (x : Stmt). gives x q) i.made))

module _ (reads : List ObjectId) (exprs : ℕ → List Lexeme → Read Expr) (conds : ℕ → List Lexeme → Read Cond) (blocks : ℕ → List Lexeme → Read (List Stmt)) (values : Form Expr) (tests : Form Cond) (form : Form Stmt)
    (in_exprs : Reads exprs values) (in_conds : Reads conds tests) (tests_grow : Grows tests) (in_blocks : ReadsBlock blocks form) (grows : Grows form) (depth : ℕ) (s : Stmt) (p q : Place) where
  abbrev by_if : Bool → Read Stmt
  by_if b = cond b (start (suc depth) p.0 p.1 >>= λ n. if_by conds blocks n (rest_of p.1)) (Err (unexpected p.1))

  abbrev by_set : Bool → Bool → Read Stmt
  by_set a b = cond a (start (suc depth) p.0 p.1 >>= λ n. set_by reads exprs n (rest_of p.1)) (by_if b)

  set_step : IsSet reads values s p q → stmt_by reads exprs conds blocks (suc depth) p.0 p.1 ≡ gives s q
  unfolding stmt_by
  set_step i = ap (λ (a : Bool). by_set a (is_at marks.If p.1)) (at_mark marks.Set p.1 i.word.0)
      ∙ started marks.Set depth p i.one (set_by reads exprs) (gives s q) i.word (set_again reads exprs values in_exprs s p q i)

  if_step : IsIf tests form s p q → NoElse q → stmt_by reads exprs conds blocks (suc depth) p.0 p.1 ≡ gives s q
  unfolding stmt_by
  if_step i none = ap (λ (a : Bool). by_set a (is_at marks.If p.1)) (not_at marks.Set marks.If p.1 i.word.0 refl)
      ∙ ap by_if (at_mark marks.If p.1 i.word.0)
      ∙ started marks.If depth p i.one (if_by conds blocks) (gives s q) i.word (if_again conds blocks tests form in_conds tests_grow in_blocks grows s p q i none)

stmt_again : (reads : List ObjectId) (depth : ℕ) → ReadsBefore (stmt_at reads depth) (IsStmt reads depth)
unfolding stmt_at
stmt_again reads zero s p q h none = absurd h
stmt_again reads (suc depth) s p q (inl i) none =
    set_step reads (expr_at reads depth) (cond_at reads depth) (block_by (stmt_at reads depth)) (IsExpr reads depth) (IsCond reads depth) (IsStmt reads depth)
    (expr_again reads depth) (cond_again reads depth) (cond_grows reads depth) (block_again (stmt_at reads depth) (IsStmt reads depth) (stmt_again reads depth) (stmt_grows reads depth) (stmt_begins reads depth)) (stmt_grows reads depth) depth s p q i
stmt_again reads (suc depth) s p q (inr i) none =
    if_step reads (expr_at reads depth) (cond_at reads depth) (block_by (stmt_at reads depth)) (IsExpr reads depth) (IsCond reads depth) (IsStmt reads depth)
    (expr_again reads depth) (cond_again reads depth) (cond_grows reads depth) (block_again (stmt_at reads depth) (IsStmt reads depth) (stmt_again reads depth) (stmt_grows reads depth) (stmt_begins reads depth)) (stmt_grows reads depth) depth s p q i none

pub body_again : (reads : List ObjectId) (depth : ℕ) → ReadsBlock (block_by (stmt_at reads depth)) (IsStmt reads depth)
body_again reads depth = block_again (stmt_at reads depth) (IsStmt reads depth) (stmt_again reads depth) (stmt_grows reads depth) (stmt_begins reads depth)
