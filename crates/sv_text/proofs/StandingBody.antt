-- The canonical text of a statement, and of a block of them, stands for it.
use Rattle.std.proofs.Common.{◌≡◌, ℕ, zero, suc, ◌+◌, ◌<◌, ◌≤◌, max, inl, inr, Bool, true, false, ◌&&◌, nat_lt, List, [], ◌∷◌, ◌++◌, length, map, refl, sym, ap, subst, ◌∙◌, arith, append_assoc}
use Rattle.std.specs.List.{AllByRecursion}
use Rattle.std.proofs.lemmas.Bool.{and_parts, ltb-true}
use Rattle.std.proofs.lemmas.List.Sums.{sum_by-cons}
use Rattle.sv_world.specs.Trees.{expr_nodes, cond_nodes, stmt_nodes, body_nodes, stmt_depth, body_depth, expr_passes, cond_passes, stmt_passes, body_passes}
use Rattle.sv_world.specs.declared.world.ObjectId.{ObjectId}
use Rattle.sv_world.specs.declared.action.Expr.{Expr}
use Rattle.sv_world.specs.declared.action.Cond.{Cond}
use Rattle.sv_world.specs.declared.action.Stmt.{Stmt}
use Rattle.sv_world.specs.declared.action.Stmt.TheVariants as stmt
use Rattle.sv_text.specs.declared.token.Mark.{Mark}
use Rattle.sv_text.specs.declared.token.Mark.TheVariants as marks
use Rattle.sv_text.specs.declared.token.Lexeme.{Lexeme}
use Rattle.sv_text.specs.Tokens.{is_word}
use Rattle.sv_text.specs.Grammar.{Place, IsMark, IsRef, AreAll, IsBlock, MayBeElse, IsStmt}
use Rattle.sv_text.specs.Canonical.{object_in, ref_text, expr_text, cond_text, spaced, block_text, else_text, stmt_text}
use Rattle.sv_world.specs.Ranges.{is_byte, expr_fits, cond_fits, stmt_fits, body_fits}
use Rattle.sv_world.proofs.Ranged.{set_fits, if_fits}
use Rattle.sv_world.proofs.TreeInduction.{all_stmts}
use Rattle.sv_world.proofs.TreeMeasures.{set_nodes, set_depth, set_passes, if_nodes, if_depth, if_passes}
use Rattle.sv_text.proofs.Layers.{set_text_is, if_text}
use Rattle.sv_text.proofs.Spelled.{toks, spelled, is_bracket, ref_bytes, ref_stands}
use Rattle.sv_text.proofs.Standing.{blank_at, between_stands, word_node, bracket_mark, along, regroup, ref_text_is, below, HasSlots, expr_stands, cond_stands}

abbrev pub StmtStands : List ObjectId → Stmt → Type 0
StmtStands reads s = (depth nodes place : ℕ) (rest : List ℕ) → stmt_fits s ≡ true → stmt_passes (below (length reads)) (below (length reads)) s ≡ true → stmt_depth s ≤ depth → nodes + stmt_nodes s ≤ 64
    → (next : ℕ) × IsStmt reads depth s (nodes, toks place false (stmt_text reads s ++ rest)) (nodes + stmt_nodes s, toks next false rest)

-- a bracket behind a space
pub blank_bracket : (m : Mark) → is_bracket m ≡ true → is_word m ≡ false → (n place : ℕ) (glued : Bool) (rest : List ℕ) → IsMark m (n, toks place glued (32 ∷ (spelled m ++ rest))) (n, toks (place + 1 + 1) false rest)
blank_bracket m is sign n place glued rest =
    subst (λ (k : List Lexeme). IsMark m (n, k) (n, toks (place + 1 + 1) false rest)) (sym (blank_at place glued (spelled m ++ rest))) (bracket_mark m is sign n (place + 1) false rest)

module _ (reads : List ObjectId) where
  abbrev texts : List Stmt → List (List ℕ)
  texts xs = map (stmt_text reads) xs

  abbrev passes : List Stmt → Bool
  passes xs = body_passes (below (length reads)) (below (length reads)) xs

  list_stands : (xs : List Stmt) → AllByRecursion (StmtStands reads) xs → (depth nodes place : ℕ) (glued : Bool) (rest : List ℕ) → body_fits xs ≡ true → passes xs ≡ true → body_depth xs ≤ depth → nodes + body_nodes xs ≤ 64
      → (next : ℕ) × (g : Bool) × AreAll (IsStmt reads depth) xs (nodes, toks place glued (spaced (texts xs) ++ rest)) (nodes + body_nodes xs, toks next g rest)
  list_stands [] each depth nodes place glued rest fits pass deep few =
      let e : nodes ≡ nodes + 0 = omega arith in
      (place, glued, ap (λ (k : ℕ). let q : Place = (k, toks place glued rest) in q) e)
  list_stands (x ∷ xs) each depth nodes place glued rest fits pass deep few =
      let t = stmt_text reads x in
      let others = spaced (texts xs) in
      let more = others ++ rest in
      let form = IsStmt reads depth in
      let count : body_nodes (x ∷ xs) ≡ stmt_nodes x + body_nodes xs = sum_by-cons (λ (n : ℕ). n) (stmt_nodes x) (map stmt_nodes xs) in
      let level : body_depth (x ∷ xs) ≡ max (stmt_depth x) (body_depth xs) = refl in
      let fit = and_parts (stmt_fits x) (body_fits xs) fits in
      let go = and_parts (stmt_passes (below (length reads)) (below (length reads)) x) (passes xs) pass in
      let one = each.0 depth nodes (place + 1) more fit.0 go.0 (omega arith) (omega arith) in
      let two = list_stands xs each.1 depth (nodes + stmt_nodes x) one.0 false rest fit.1 go.1 (omega arith) (omega arith) in
      let begin : toks place glued (spaced (texts (x ∷ xs)) ++ rest) ≡ toks (place + 1) false (t ++ more) = ap (λ (s : List ℕ). toks place glued (32 ∷ s)) (append_assoc t others rest) ∙ blank_at place glued (t ++ more) in
      let total : nodes + stmt_nodes x + body_nodes xs ≡ nodes + body_nodes (x ∷ xs) = omega arith in
      let between : Place = (nodes + stmt_nodes x, toks one.0 false more) in
      let first : form x (nodes, toks place glued (spaced (texts (x ∷ xs)) ++ rest)) between = subst (λ (k : List Lexeme). form x (nodes, k) between) (sym begin) one.1 in
      let last : AreAll form xs between (nodes + body_nodes (x ∷ xs), toks two.0 two.1 rest) = subst (λ (k : ℕ). AreAll form xs between (k, toks two.0 two.1 rest)) total two.2 in
      (two.0, two.1, (between, first, last))

  pub block_stands : (xs : List Stmt) → AllByRecursion (StmtStands reads) xs → (depth nodes place : ℕ) (glued : Bool) (rest : List ℕ) → body_fits xs ≡ true → passes xs ≡ true → body_depth xs ≤ depth → nodes + body_nodes xs ≤ 64
      → (next : ℕ) × IsBlock (IsStmt reads depth) xs (nodes, toks place glued (block_text (texts xs) ++ rest)) (nodes + body_nodes xs, toks next false rest)
  block_stands xs each depth nodes place glued rest fits pass deep few =
      let end = 32 ∷ 125 ∷ rest in
      let inner = spaced (texts xs) ++ end in
      let l = list_stands xs each depth nodes (place + 1) false end fits pass deep few in
      let done = nodes + body_nodes xs in (
        l.0 + 1 + 1,
        along (IsBlock (IsStmt reads depth)) xs nodes done done place glued (block_text (texts xs) ++ rest) (123 ∷ inner) (toks (l.0 + 1 + 1) false rest)
            (ap (λ (s : List ℕ). 123 ∷ s) (append_assoc (spaced (texts xs)) (32 ∷ 125 ∷ []) rest)) refl
            (record {
              inside = (nodes, toks (place + 1) false inner);
              end = (done, toks l.0 l.1 end);
              opened = bracket_mark marks.OpenBlock refl refl nodes place glued inner;
              stmts = l.2;
              closed = blank_bracket marks.CloseBlock refl refl done l.0 l.1 rest;
            }),
      )

  else_stands : (ys : List Stmt) → AllByRecursion (StmtStands reads) ys → (depth nodes place : ℕ) (rest : List ℕ) → body_fits ys ≡ true → passes ys ≡ true → body_depth ys ≤ depth → nodes + body_nodes ys ≤ 64
      → (next : ℕ) × MayBeElse (IsStmt reads depth) ys (nodes, toks place false (else_text (texts ys) ++ rest)) (nodes + body_nodes ys, toks next false rest)
  else_stands [] each depth nodes place rest fits pass deep few =
      let e : nodes ≡ nodes + 0 = omega arith in
      (place, inr (refl, ap (λ (k : ℕ). let q : Place = (k, toks place false rest) in q) e))
  else_stands (y ∷ ys) each depth nodes place rest fits pass deep few =
      let block = block_text (texts (y ∷ ys)) ++ rest in
      let w = between_stands marks.Else (omega arith) nodes place false block in
      let b = block_stands (y ∷ ys) each depth nodes w.0 false rest fits pass deep few in
      (b.0, inl (record { inside = (nodes, toks w.0 false block); word = w.1; block = b.1 }))

  set_stands : HasSlots reads → (slot attr : ℕ) (e : Expr) → StmtStands reads (stmt.Set slot attr e)
  set_stands own slot attr e zero nodes place rest fits pass deep few = absurd (omega (arith, set_depth slot attr e))
  set_stands own slot attr e (suc depth) nodes place rest fits pass deep few =
      let s = stmt.Set slot attr e in
      let count = set_nodes slot attr e in
      let level = set_depth slot attr e in
      let fit = and_parts (is_byte attr) (expr_fits e) (and_parts (is_byte slot) (is_byte attr && expr_fits e) (sym (set_fits slot attr e) ∙ fits)).1 in
      let go = and_parts (nat_lt slot (length reads)) (expr_passes (below (length reads)) e) (sym (set_passes slot attr e (below (length reads)) (below (length reads))) ∙ pass) in
      let low : slot < length reads = ltb-true slot (length reads) go.0 in
      let byte : attr < 256 = ltb-true attr 256 fit.0 in
      let object = object_in reads slot in
      let te = expr_text reads e in
      let value = te ++ (59 ∷ rest) in
      let target = ref_bytes object attr ++ (32 ∷ value) in
      let n1 = nodes + 1 in
      let n2 = nodes + 1 + expr_nodes e in
      let w = word_node marks.Set (omega arith) nodes place target (omega arith) in
      let r = ref_stands object attr (32 ∷ value) (own slot low).0 byte refl w.0 false in
      let v = expr_stands reads own e depth n1 (r.0 + 1) (59 ∷ rest) fit.1 go.1 (omega arith) (omega arith) refl in
      let two = toks (r.0 + 1) false value in (
        v.0 + 1,
        along (IsStmt reads (suc depth)) s nodes n2 (nodes + stmt_nodes s) place false (stmt_text reads s ++ rest) (spelled marks.Set ++ (32 ∷ target)) (toks (v.0 + 1) false rest)
            (ap (λ (t : List ℕ). t ++ rest) (set_text_is slot attr e reads)
            ∙ ap (λ (t : List ℕ). spelled marks.Set ++ (32 ∷ t)) (regroup (ref_text reads slot attr) (32 ∷ []) te rest 59 ∙ ap (λ (t : List ℕ). t ++ (32 ∷ value)) (ref_text_is reads slot attr)))
            (omega arith)
            (inl (record {
              slot = slot;
              attr = attr;
              e = e;
              made = refl;
              one = (n1, toks w.0 false target);
              two = two;
              three = (n2, toks v.0 v.1 (59 ∷ rest));
              word = w.1;
              target = subst (λ (k : List Lexeme). IsRef reads slot attr k two) (sym r.1) (object, (own slot low).1, refl, blank_at r.0 false value);
              value = v.2;
              closed = bracket_mark marks.Semicolon refl refl n2 v.0 v.1 rest;
            })),
      )

  if_stands : HasSlots reads → (c : Cond) (xs ys : List Stmt) → AllByRecursion (StmtStands reads) xs → AllByRecursion (StmtStands reads) ys → StmtStands reads (stmt.If c xs ys)
  if_stands own c xs ys p q zero nodes place rest fits pass deep few = absurd (omega (arith, if_depth c xs ys))
  if_stands own c xs ys p q (suc depth) nodes place rest fits pass deep few =
      let s = stmt.If c xs ys in
      let get = below (length reads) in
      let count = if_nodes c xs ys in
      let level = if_depth c xs ys in
      let fit = and_parts (cond_fits c) (body_fits xs && body_fits ys) (sym (if_fits c xs ys) ∙ fits) in
      let fits_both = and_parts (body_fits xs) (body_fits ys) fit.1 in
      let go = and_parts (cond_passes get c) (passes xs && passes ys) (sym (if_passes c xs ys get get) ∙ pass) in
      let go_both = and_parts (passes xs) (passes ys) go.1 in
      let tc = cond_text reads c in
      let block = block_text (texts xs) in
      let other = else_text (texts ys) in
      let last = other ++ rest in
      let third = block ++ last in
      let inner = tc ++ (32 ∷ third) in
      let n1 = nodes + 1 in
      let n2 = nodes + 1 + cond_nodes c in
      let n3 = nodes + 1 + cond_nodes c + body_nodes xs in
      let n4 = nodes + 1 + cond_nodes c + body_nodes xs + body_nodes ys in
      let w = word_node marks.If (omega arith) nodes place inner (omega arith) in
      let t = cond_stands reads own c depth n1 w.0 (32 ∷ third) fit.0 go.0 (omega arith) (omega arith) in
      let b = block_stands xs p depth n2 (t.0 + 1) false last fits_both.0 go_both.0 (omega arith) (omega arith) in
      let o = else_stands ys q depth n3 b.0 rest fits_both.1 go_both.1 (omega arith) (omega arith) in
      let three : Place = (n3, toks b.0 false last) in (
        o.0,
        along (IsStmt reads (suc depth)) s nodes n4 (nodes + stmt_nodes s) place false (stmt_text reads s ++ rest) (spelled marks.If ++ (32 ∷ inner)) (toks o.0 false rest)
            (ap (λ (t : List ℕ). t ++ rest) (if_text c xs ys reads)
            ∙ ap (λ (t : List ℕ). spelled marks.If ++ (32 ∷ t)) (append_assoc (tc ++ (32 ∷ []) ++ block) other rest ∙ append_assoc (tc ++ (32 ∷ [])) block last ∙ append_assoc tc (32 ∷ []) third))
            (omega arith)
            (inr (record {
              c = c;
              body = xs;
              other = ys;
              made = refl;
              one = (n1, toks w.0 false inner);
              two = (n2, toks t.0 false (32 ∷ third));
              three = three;
              word = w.1;
              test = t.1;
              block = subst (λ (k : List Lexeme). IsBlock (IsStmt reads depth) xs (n2, k) three) (sym (blank_at t.0 false third)) b.1;
              behind = o.1;
            })),
      )

  pub all_stand : HasSlots reads → (xs : List Stmt) → AllByRecursion (StmtStands reads) xs
  all_stand own = all_stmts (StmtStands reads) (set_stands own) (if_stands own)
