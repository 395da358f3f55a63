-- The action that the tokens of a text write, or the first token that may not stand at its place. There is a definition for each line of
-- the grammar. It takes its tokens one after the other and chooses among its forms by the next token alone.
use Rattle.std.specs.Prelude.{◌≡◌, ℕ, zero, suc, ◌+◌, ◌^◌, ℤ, pos, negsuc, Bool, true, false, cond, ◌&&◌, nat_lt, nat_eq, ◌==◌, int_le, List, [], ◌∷◌, ◌++◌, length, bit_or, Option, Some, None, Result, Ok, Err}
use Rattle.sv_world.specs.declared.world.ObjectId.{ObjectId}
use Rattle.sv_world.specs.declared.action.Point.{Point}
use Rattle.sv_world.specs.declared.action.Action.{Action}
use Rattle.sv_world.specs.declared.action.Expr.{Expr}
use Rattle.sv_world.specs.declared.action.Expr.TheVariants as expr
use Rattle.sv_world.specs.declared.action.Cond.{Cond}
use Rattle.sv_world.specs.declared.action.Cond.TheVariants as test
use Rattle.sv_world.specs.declared.action.Stmt.{Stmt}
use Rattle.sv_world.specs.declared.action.Stmt.TheVariants as stmt
use Rattle.sv_world.specs.Limits.{most_reads, most_nodes, most_depth, least_coordinate, greatest_coordinate}
use Rattle.sv_world.specs.Sets.{object_numbered}
use Rattle.sv_world.specs.Parts.{binary_by as with_op, compare_by as with_comparison, join_by as with_joint}
use Rattle.sv_text.specs.declared.fault.TextCause.{TextCause}
use Rattle.sv_text.specs.declared.fault.TextCause.TheVariants as causes
use Rattle.sv_text.specs.declared.fault.TextFault.{TextFault}
use Rattle.sv_text.specs.declared.fault.ParseFault.{ParseFault}
use Rattle.sv_text.specs.declared.fault.ParseFault.TheVariants as faults
use Rattle.sv_text.specs.declared.token.Mark.{Mark}
use Rattle.sv_text.specs.declared.token.Mark.TheVariants as marks
use Rattle.sv_text.specs.declared.token.Token.{Token}
use Rattle.sv_text.specs.declared.token.Token.TheVariants as tokens
use Rattle.sv_text.specs.declared.token.Lexeme.{Lexeme}
use Rattle.sv_world.specs.declared.node.Node.{Node}
use Rattle.sv_world.specs.declared.node.Operator.{Operator}
use Rattle.sv_world.specs.declared.node.Operator.TheVariants as ops
use Rattle.sv_world.specs.declared.node.Comparison.{Comparison}
use Rattle.sv_world.specs.declared.node.Comparison.TheVariants as comparisons
use Rattle.sv_world.specs.declared.node.Connective.{Connective}
use Rattle.sv_world.specs.declared.node.Connective.TheVariants as joints
use Rattle.sv_text.specs.Tokens.{is_word}

infixl 10 ◌>>=◌
abbrev pub ◌>>=◌ : {A B : Type 0} → Result A TextFault → (A → Result B TextFault) → Result B TextFault
(Ok x) >>= f = f x
(Err e) >>= f = Err e

-- What a function returned, seen by view, is what reading gives, unless memory ran out.
abbrev pub Fails : {Y : Type 0} → ParseFault → Result Y TextFault → Type 0
Fails faults.Memory read = Unit {0}
Fails (faults.Text f) read = read ≡ Err f

abbrev pub Gives : {X Y : Type 0} → (X → Y) → Result X ParseFault → Result Y TextFault → Type 0
Gives view (Ok x) read = read ≡ Ok (view x)
Gives view (Err e) read = Fails e read

-- The same of a function that takes no memory.
abbrev pub seen : {X Y : Type 0} → (X → Y) → Result X TextFault → Result Y TextFault
seen view (Ok x) = Ok (view x)
seen view (Err f) = Err f

-- ---- one token

-- words and signs by number, in the order of their list
abbrev pub mark_code : Mark → ℕ
mark_code marks.Reads = 0
mark_code marks.Writes = 1
mark_code marks.At = 2
mark_code marks.Set = 3
mark_code marks.If = 4
mark_code marks.Else = 5
mark_code marks.Min = 6
mark_code marks.Max = 7
mark_code marks.And = 8
mark_code marks.Or = 9
mark_code marks.Not = 10
mark_code marks.Other = 11
mark_code marks.Open = 12
mark_code marks.Close = 13
mark_code marks.OpenTest = 14
mark_code marks.CloseTest = 15
mark_code marks.OpenBlock = 16
mark_code marks.CloseBlock = 17
mark_code marks.Semicolon = 18
mark_code marks.Plus = 19
mark_code marks.Minus = 20
mark_code marks.Times = 21
mark_code marks.Divide = 22
mark_code marks.Remainder = 23
mark_code marks.Equal = 24
mark_code marks.LessEqual = 25
mark_code marks.Less = 26
mark_code marks.End = 27

unfoldable pub is_same : Mark → Mark → Bool
is_same m n = nat_eq (mark_code m) (mark_code n)

abbrev pub rest_of : List Lexeme → List Lexeme
rest_of [] = []
rest_of (t ∷ ts) = ts

abbrev pub place_of : List Lexeme → ℕ
place_of [] = 0
place_of (t ∷ ts) = t.place

abbrev pub mark_of : Token → Option Mark
mark_of (tokens.Number z) = None
mark_of tokens.Wide = None
mark_of (tokens.Ref object attr) = None
mark_of (tokens.Mark m) = Some m
mark_of (tokens.Bad cause) = None

abbrev pub front_of : Bool → Option Mark → Option Mark
front_of glued None = None
front_of glued (Some m) = cond (glued && is_word m) None (Some m)

-- The word or sign that stands next. A word may not directly follow a word or number.
unfoldable pub front : List Lexeme → Option Mark
front [] = None
front (t ∷ ts) = front_of t.glued (mark_of t.token)

abbrev pub is_mark : Mark → Option Mark → Bool
is_mark m None = false
is_mark m (Some n) = is_same n m

unfoldable pub is_at : Mark → List Lexeme → Bool
is_at m ts = is_mark m (front ts)

abbrev pub cause_of : Token → TextCause
cause_of (tokens.Number z) = causes.Expected
cause_of tokens.Wide = causes.Expected
cause_of (tokens.Ref object attr) = causes.Expected
cause_of (tokens.Mark m) = causes.Expected
cause_of (tokens.Bad cause) = cause

abbrev pub fault : List Lexeme → TextCause → TextFault
fault ts cause = record { place = place_of ts; cause = cause }

-- the fault of a token that the grammar does not have here
unfoldable pub unexpected : List Lexeme → TextFault
unexpected [] = fault [] causes.Expected
unexpected (t ∷ ts) = fault (t ∷ ts) (cause_of t.token)

-- a word or sign that has to stand here, and what is left behind it
unfoldable pub expect : Mark → List Lexeme → Result (List Lexeme) TextFault
expect m ts = cond (is_at m ts) (Ok (rest_of ts)) (Err (unexpected ts))

abbrev pub number_by : ℤ → ℤ → List Lexeme → Bool → Token → Result ℤ TextFault
number_by low high ts glued (tokens.Number z) = cond (int_le low z && int_le z high) (cond glued (Err (fault ts causes.Expected)) (Ok z)) (Err (fault ts causes.Number))
number_by low high ts glued tokens.Wide = Err (fault ts causes.Number)
number_by low high ts glued (tokens.Ref object attr) = Err (fault ts causes.Expected)
number_by low high ts glued (tokens.Mark m) = Err (fault ts causes.Expected)
number_by low high ts glued (tokens.Bad cause) = Err (fault ts cause)

-- a number from low to high, which may not directly follow a word or number
unfoldable pub number_at : ℤ → ℤ → List Lexeme → Result ℤ TextFault
number_at low high [] = Err (unexpected [])
number_at low high (t ∷ ts) = number_by low high (t ∷ ts) t.glued t.token

-- ---- reads, writes and origin

abbrev pub size_of : ℤ → ℕ
size_of (pos n) = n
size_of (negsuc n) = 0

unfoldable pub object_number_at : List Lexeme → Result ℕ TextFault
object_number_at ts = number_at (pos 0) (pos 65535) ts >>= λ z. Ok (size_of z)

-- one more read behind so many, of which the last is below `least`
unfoldable pub read_at : ℕ → ℕ → List Lexeme → Result ℕ TextFault
read_at count least ts = do
  o ← object_number_at ts
  cond (nat_lt o least) (Err (fault ts causes.Order)) (cond (nat_lt count most_reads) (Ok o) (Err (fault ts causes.TooMany)))

abbrev pub ends_reads : ℕ → List Lexeme → Bool
ends_reads count ts = nat_lt 0 count && is_at marks.Writes ts

-- one read or more, and `writes`
unfoldable pub reads_from : List ObjectId → ℕ → List Lexeme → Result (List ObjectId × List Lexeme) TextFault
reads_from before least [] = Err (unexpected [])
reads_from before least (t ∷ ts) =
    cond (ends_reads (length before) (t ∷ ts)) (Ok (before, ts))
    (read_at (length before) least (t ∷ ts) >>= λ o. reads_from (before ++ object_numbered o ∷ []) (o + 1) ts)

-- the slot of an object, which is its place in the reads
abbrev pub slot_from : ℕ → List ObjectId → ℕ → Option ℕ
slot_from k [] o = None
slot_from k (r ∷ rs) o = cond (r.0 == o) (Some k) (slot_from (k + 1) rs o)

-- what is there, else the fault
abbrev pub part_or : {A : Type 0} → TextFault → Option A → Result A TextFault
part_or f None = Err f
part_or f (Some x) = Ok x

unfoldable pub slot_at : List ObjectId → ℕ → List Lexeme → Result ℕ TextFault
slot_at reads o ts = part_or (fault ts causes.NotRead) (slot_from 0 reads o)

-- a written object and its slot
unfoldable pub write_at : List ObjectId → ℕ → List Lexeme → Result (ℕ × ℕ) TextFault
write_at reads least ts = do
  o ← object_number_at ts
  k ← slot_at reads o ts
  cond (nat_lt o least) (Err (fault ts causes.Order)) (Ok (o, k))

abbrev pub is_number_token : Token → Bool
is_number_token (tokens.Number z) = true
is_number_token tokens.Wide = true
is_number_token (tokens.Ref object attr) = false
is_number_token (tokens.Mark m) = false
is_number_token (tokens.Bad cause) = false

unfoldable pub is_number_at : List Lexeme → Bool
is_number_at [] = false
is_number_at (t ∷ ts) = is_number_token t.token

-- the written objects as a mask over the slots
unfoldable pub writes_from : List ObjectId → ℕ → ℕ → List Lexeme → Result (ℕ × List Lexeme) TextFault
writes_from reads mask least [] = Ok (mask, [])
writes_from reads mask least (t ∷ ts) =
    cond (is_number_at (t ∷ ts)) (write_at reads least (t ∷ ts) >>= λ w. writes_from reads (bit_or mask (2 ^ w.1)) (w.0 + 1) ts) (Ok (mask, t ∷ ts))

unfoldable pub coordinate_at : List Lexeme → Result ℤ TextFault
coordinate_at ts = number_at least_coordinate greatest_coordinate ts

unfoldable pub origin_at : List Lexeme → Result (Point × List Lexeme) TextFault
origin_at ts = cond (is_at marks.At ts)
    (do
      x ← coordinate_at (rest_of ts)
      y ← coordinate_at (rest_of (rest_of ts))
      Ok (record { x = x; y = y }, rest_of (rest_of (rest_of ts))))
    (Ok (record { x = pos 0; y = pos 0 }, ts))

-- ---- expressions. Depth is how deep a node may go that starts here, and nodes how many were started so far.

abbrev pub Read : Type 0 → Type 0
Read A = Result (A × ℕ × List Lexeme) TextFault

unfoldable pub start : ℕ → ℕ → List Lexeme → Result ℕ TextFault
start depth nodes ts = cond (nat_lt nodes most_nodes) (cond (nat_lt 0 depth) (Ok (nodes + 1)) (Err (fault ts causes.TooDeep))) (Err (fault ts causes.TooLarge))

abbrev pub op_of : Mark → Option Operator
op_of marks.Plus = Some ops.Add
op_of marks.Minus = Some ops.Sub
op_of marks.Times = Some ops.Mul
op_of marks.Divide = Some ops.Div
op_of marks.Remainder = Some ops.Rem
op_of marks.Min = Some ops.Min
op_of marks.Max = Some ops.Max
op_of _ = None

abbrev pub marked : {A : Type 0} → (Mark → Option A) → Option Mark → Option A
marked f None = None
marked f (Some m) = f m

unfoldable pub op_at : List Lexeme → Result Operator TextFault
op_at ts = part_or (unexpected ts) (marked op_of (front ts))

abbrev pub leaf_by : List ObjectId → List Lexeme → Bool → Token → Result Expr TextFault
leaf_by reads ts glued (tokens.Number z) = cond glued (Err (fault ts causes.Expected)) (Ok (expr.Lit z))
leaf_by reads ts glued tokens.Wide = Err (fault ts causes.Number)
leaf_by reads ts glued (tokens.Ref object attr) = slot_at reads object ts >>= λ k. Ok (expr.Attr k attr)
leaf_by reads ts glued (tokens.Mark m) = Err (fault ts causes.Expected)
leaf_by reads ts glued (tokens.Bad cause) = Err (fault ts cause)

-- a literal or the attribute of an object that is read
unfoldable pub leaf_at : List ObjectId → List Lexeme → Result Expr TextFault
leaf_at reads [] = Err (unexpected [])
leaf_at reads (t ∷ ts) = leaf_by reads (t ∷ ts) t.glued t.token

-- what `below` reads, and a sign behind it
unfoldable pub closed_by : {A : Type 0} → (ℕ → List Lexeme → Read A) → Mark → ℕ → List Lexeme → Read A
closed_by below m nodes ts = do
  a ← below nodes ts
  rest ← expect m a.2
  Ok (a.0, a.1, rest)

-- Two parts, what joins them, and a sign behind them. `below` reads the parts, which stand one deeper.
unfoldable pub bracketed_by : {O A B : Type 0} → (List Lexeme → Result O TextFault) → (O → A → A → B) → Mark → (ℕ → List Lexeme → Read A) → ℕ → List Lexeme → Read B
bracketed_by joined make closes below nodes ts = do
  a ← below nodes ts
  o ← joined a.2
  b ← below a.1 (rest_of a.2)
  rest ← expect closes b.2
  Ok (make o a.0 b.0, b.1, rest)

unfoldable pub pair_by : (ℕ → List Lexeme → Read Expr) → ℕ → List Lexeme → Read Expr
pair_by below nodes ts = bracketed_by op_at with_op marks.Close below nodes ts

unfoldable pub expr_by : List ObjectId → (ℕ → List Lexeme → Read Expr) → ℕ → ℕ → List Lexeme → Read Expr
expr_by reads below depth nodes ts = cond (is_at marks.Open ts)
    (start depth nodes ts >>= λ n. pair_by below n (rest_of ts))
    (do
      leaf ← leaf_at reads ts
      n ← start depth nodes ts
      Ok (leaf, n, rest_of ts))

-- nothing stands below the eighth node
abbrev pub nowhere : {A : Type 0} → ℕ → List Lexeme → Read A
nowhere nodes ts = Err (fault ts causes.TooDeep)

unfoldable pub expr_at : List ObjectId → ℕ → ℕ → List Lexeme → Read Expr
expr_at reads zero nodes ts = expr_by reads nowhere 0 nodes ts
expr_at reads (suc depth) nodes ts = expr_by reads (expr_at reads depth) (suc depth) nodes ts

-- ---- conditions

abbrev pub comparison_of : Mark → Option Comparison
comparison_of marks.Equal = Some comparisons.Eq
comparison_of marks.Less = Some comparisons.Lt
comparison_of marks.LessEqual = Some comparisons.Le
comparison_of _ = None

unfoldable pub comparison_at : List Lexeme → Result Comparison TextFault
comparison_at ts = part_or (unexpected ts) (marked comparison_of (front ts))

abbrev pub joint_of : Mark → Option Connective
joint_of marks.And = Some joints.And
joint_of marks.Or = Some joints.Or
joint_of _ = None

unfoldable pub joint_at : List Lexeme → Result Connective TextFault
joint_at ts = part_or (unexpected ts) (marked joint_of (front ts))

unfoldable pub compare_by : (ℕ → List Lexeme → Read Expr) → ℕ → List Lexeme → Read Cond
compare_by exprs nodes ts = bracketed_by comparison_at with_comparison marks.CloseTest exprs nodes ts

unfoldable pub join_by : (ℕ → List Lexeme → Read Cond) → ℕ → List Lexeme → Read Cond
join_by below nodes ts = bracketed_by joint_at with_joint marks.Close below nodes ts

unfoldable pub not_by : (ℕ → List Lexeme → Read Cond) → ℕ → List Lexeme → Read Cond
not_by below nodes ts = below nodes ts >>= λ a. Ok (test.Not a.0, a.1, a.2)

unfoldable pub cond_by : (ℕ → List Lexeme → Read Expr) → (ℕ → List Lexeme → Read Cond) → ℕ → ℕ → List Lexeme → Read Cond
cond_by exprs below depth nodes ts =
    cond (is_at marks.OpenTest ts) (start depth nodes ts >>= λ n. compare_by exprs n (rest_of ts))
    (cond (is_at marks.Open ts) (start depth nodes ts >>= λ n. join_by below n (rest_of ts))
    (cond (is_at marks.Not ts) (start depth nodes ts >>= λ n. not_by below n (rest_of ts))
    (Err (unexpected ts))))

unfoldable pub cond_at : List ObjectId → ℕ → ℕ → List Lexeme → Read Cond
cond_at reads zero nodes ts = cond_by nowhere nowhere 0 nodes ts
cond_at reads (suc depth) nodes ts = cond_by (expr_at reads depth) (cond_at reads depth) (suc depth) nodes ts

-- ---- statements

abbrev pub target_by : List ObjectId → List Lexeme → Token → Result (ℕ × ℕ) TextFault
target_by reads ts (tokens.Number z) = Err (fault ts causes.Expected)
target_by reads ts tokens.Wide = Err (fault ts causes.Expected)
target_by reads ts (tokens.Ref object attr) = slot_at reads object ts >>= λ k. Ok (k, attr)
target_by reads ts (tokens.Mark m) = Err (fault ts causes.Expected)
target_by reads ts (tokens.Bad cause) = Err (fault ts cause)

-- the ref of a `set`, which is no node
unfoldable pub target_at : List ObjectId → List Lexeme → Result (ℕ × ℕ) TextFault
target_at reads [] = Err (unexpected [])
target_at reads (t ∷ ts) = target_by reads (t ∷ ts) t.token

unfoldable pub set_by : List ObjectId → (ℕ → List Lexeme → Read Expr) → ℕ → List Lexeme → Read Stmt
set_by reads exprs nodes ts = do
  target ← target_at reads ts
  e ← closed_by exprs marks.Semicolon nodes (rest_of ts)
  Ok (stmt.Set target.0 target.1 e.0, e.1, e.2)

-- the block behind `else`, and an empty one where there is none
unfoldable pub else_by : (ℕ → List Lexeme → Read (List Stmt)) → ℕ → List Lexeme → Read (List Stmt)
else_by blocks nodes ts = cond (is_at marks.Else ts) (blocks nodes (rest_of ts)) (Ok ([], nodes, ts))

unfoldable pub branches_by : (ℕ → List Lexeme → Read (List Stmt)) → ℕ → List Lexeme → Read (List Stmt × List Stmt)
branches_by blocks nodes ts = do
  a ← blocks nodes ts
  b ← else_by blocks a.1 a.2
  Ok ((a.0, b.0), b.1, b.2)

unfoldable pub if_by : (ℕ → List Lexeme → Read Cond) → (ℕ → List Lexeme → Read (List Stmt)) → ℕ → List Lexeme → Read Stmt
if_by conds blocks nodes ts = do
  c ← conds nodes ts
  b ← branches_by blocks c.1 c.2
  Ok (stmt.If c.0 b.0.0 b.0.1, b.1, b.2)

-- Statements up to the end of their block. Each starts a node, so that 65 turns suffice: the 65th statement is refused.
unfoldable pub stmts_by : (ℕ → List Lexeme → Read Stmt) → ℕ → List Stmt → ℕ → List Lexeme → Read (List Stmt)
stmts_by stmts zero before nodes ts = Err (fault ts causes.TooLarge)
stmts_by stmts (suc turns) before nodes ts = cond (is_at marks.CloseBlock ts)
    (Ok (before, nodes, rest_of ts))
    (stmts nodes ts >>= λ s. stmts_by stmts turns (before ++ s.0 ∷ []) s.1 s.2)

unfoldable pub block_by : (ℕ → List Lexeme → Read Stmt) → ℕ → List Lexeme → Read (List Stmt)
block_by stmts nodes ts = expect marks.OpenBlock ts >>= λ rest. stmts_by stmts (suc most_nodes) [] nodes rest

unfoldable pub stmt_by : List ObjectId → (ℕ → List Lexeme → Read Expr) → (ℕ → List Lexeme → Read Cond) → (ℕ → List Lexeme → Read (List Stmt)) → ℕ → ℕ → List Lexeme → Read Stmt
stmt_by reads exprs conds blocks depth nodes ts =
    cond (is_at marks.Set ts) (start depth nodes ts >>= λ n. set_by reads exprs n (rest_of ts))
    (cond (is_at marks.If ts) (start depth nodes ts >>= λ n. if_by conds blocks n (rest_of ts))
    (Err (unexpected ts)))

unfoldable pub stmt_at : List ObjectId → ℕ → ℕ → List Lexeme → Read Stmt
stmt_at reads zero nodes ts = stmt_by reads nowhere nowhere nowhere 0 nodes ts
stmt_at reads (suc depth) nodes ts = stmt_by reads (expr_at reads depth) (cond_at reads depth) (block_by (stmt_at reads depth)) (suc depth) nodes ts

-- ---- the whole

unfoldable pub header_at : List Lexeme → Result (List ObjectId × List Lexeme) TextFault
header_at ts = expect marks.Reads ts >>= λ rest. reads_from [] 0 rest

unfoldable pub body_at : List ObjectId → List Lexeme → Result (List Stmt) TextFault
body_at reads ts = do
  body ← block_by (stmt_at reads most_depth) 0 ts
  _ ← expect marks.End body.2
  Ok body.0

unfoldable pub reading : List Lexeme → Result Action TextFault
reading ts = do
  r ← header_at ts
  w ← writes_from r.0 0 0 r.1
  p ← origin_at w.1
  body ← body_at r.0 p.1
  Ok (record { reads = r.0; mask = w.0; origin = p.0; body = body })

-- What reading a tree gives, with its nodes behind older ones in place of the tree.
abbrev pub appended : {A : Type 0} → (A → List Node) → List Node → Read A → Read (List Node)
appended spelled old (Ok x) = Ok (old ++ spelled x.0, x.1, x.2)
appended spelled old (Err e) = Err e
