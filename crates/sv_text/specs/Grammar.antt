-- The grammar of action texts, apart from how they are read: what stands in a list of tokens from one place to another.
use Rattle.std.specs.Prelude.{◌≡◌, ℕ, zero, suc, ◌+◌, ◌<◌, ◌≤◌, ◌^◌, ℤ, pos, true, false, ◌⊎◌, List, [], ◌∷◌, length, bit_or, Some, int_le}
use Rattle.sv_world.specs.declared.world.ObjectId.{ObjectId}
use Rattle.sv_world.specs.declared.action.Point.{Point}
use Rattle.sv_world.specs.declared.action.Action.{Action}
use Rattle.sv_world.specs.declared.action.Expr.{Expr}
use Rattle.sv_world.specs.declared.action.Expr.TheVariants as expr
use Rattle.sv_world.specs.declared.action.Cond.{Cond}
use Rattle.sv_world.specs.declared.action.Cond.TheVariants as test
use Rattle.sv_world.specs.declared.action.Stmt.{Stmt}
use Rattle.sv_world.specs.declared.action.Stmt.TheVariants as stmt
use Rattle.sv_world.specs.Limits.{most_reads, most_nodes, most_depth, least_coordinate, greatest_coordinate}
use Rattle.sv_world.specs.Parts.{binary_by as with_op, compare_by as with_comparison, join_by as with_joint}
use Rattle.sv_text.specs.declared.token.Mark.{Mark}
use Rattle.sv_text.specs.declared.token.Mark.TheVariants as marks
use Rattle.sv_text.specs.declared.token.Token.TheVariants as tokens
use Rattle.sv_text.specs.declared.token.Lexeme.{Lexeme}
use Rattle.sv_world.specs.declared.node.Operator.{Operator}
use Rattle.sv_world.specs.declared.node.Operator.TheVariants as ops
use Rattle.sv_world.specs.declared.node.Comparison.{Comparison}
use Rattle.sv_world.specs.declared.node.Comparison.TheVariants as comparisons
use Rattle.sv_world.specs.declared.node.Connective.{Connective}
use Rattle.sv_world.specs.declared.node.Connective.TheVariants as joints
use Rattle.sv_text.specs.Reading.{front, rest_of, slot_from}

-- A place: how many nodes were started before it, and the tokens from it on.
abbrev pub Place : Type 0
Place = ℕ × List Lexeme

-- what stands from one place to another
abbrev pub Form : Type 0 → Type 1
Form A = A → Place → Place → Type 0

-- a word or sign
abbrev pub IsMark : Mark → Place → Place → Type 0
IsMark m p q = (front p.1 ≡ Some m) × ((p.0, rest_of p.1) ≡ q)

-- a word or sign that starts a node, one of at most 64
abbrev pub IsNode : Mark → Place → Place → Type 0
IsNode m p q = (front p.1 ≡ Some m) × (p.0 < most_nodes) × ((p.0 + 1, rest_of p.1) ≡ q)

-- a number that does not directly follow a word or number
abbrev pub IsNumber : ℤ → List Lexeme → List Lexeme → Type 0
IsNumber z [] rest = ⊥
IsNumber z (t ∷ ts) rest = (t.token ≡ tokens.Number z) × (t.glued ≡ false) × (ts ≡ rest)

-- a ref of an object that is read
abbrev pub IsRef : List ObjectId → ℕ → ℕ → List Lexeme → List Lexeme → Type 0
IsRef reads slot attr [] rest = ⊥
IsRef reads slot attr (t ∷ ts) rest = (object : ℕ) × (slot_from 0 reads object ≡ Some slot) × (t.token ≡ tokens.Ref object attr) × (ts ≡ rest)

abbrev pub op_mark : Operator → Mark
op_mark ops.Add = marks.Plus
op_mark ops.Sub = marks.Minus
op_mark ops.Mul = marks.Times
op_mark ops.Div = marks.Divide
op_mark ops.Rem = marks.Remainder
op_mark ops.Min = marks.Min
op_mark ops.Max = marks.Max

abbrev pub comparison_mark : Comparison → Mark
comparison_mark comparisons.Eq = marks.Equal
comparison_mark comparisons.Lt = marks.Less
comparison_mark comparisons.Le = marks.LessEqual

abbrev pub joint_mark : Connective → Mark
joint_mark joints.And = marks.And
joint_mark joints.Or = marks.Or

-- one part, a word or sign, another part, and a sign that closes
pub record AreTwoParts {A : Type 0} (form : Form A) (a : A) (middle : Mark) (b : A) (close : Mark) (p q : Place) : Type 0 where
  pub one : Place
  pub two : Place
  pub three : Place
  pub left : form a p one
  pub between : IsMark middle one two
  pub right : form b two three
  pub closed : IsMark close three q

-- two parts in brackets, joined by what the word or sign between them tells
pub record IsBracketed {O A B : Type 0} (make : O → A → A → B) (mark : O → Mark) (opens closes : Mark) (form : Form A) (x : B) (p q : Place) : Type 0 where
  pub by : O
  pub a : A
  pub b : A
  pub made : make by a b ≡ x
  pub inside : Place
  pub opened : IsNode opens p inside
  pub parts : AreTwoParts form a (mark by) b closes inside q

-- ( expr op expr )
abbrev pub IsPair : Form Expr → Expr → Place → Place → Type 0
IsPair form e p q = IsBracketed with_op op_mark marks.Open marks.Close form e p q

pub record IsLiteral (e : Expr) (p q : Place) : Type 0 where
  pub number : ℤ
  pub made : expr.Lit number ≡ e
  pub few : p.0 < most_nodes
  pub count : p.0 + 1 ≡ q.0
  pub here : IsNumber number p.1 q.1

pub record IsAttr (reads : List ObjectId) (e : Expr) (p q : Place) : Type 0 where
  pub slot : ℕ
  pub attr : ℕ
  pub made : expr.Attr slot attr ≡ e
  pub few : p.0 < most_nodes
  pub count : p.0 + 1 ≡ q.0
  pub here : IsRef reads slot attr p.1 q.1

-- an expression with at most so many nodes above one another
abbrev pub IsExpr : List ObjectId → ℕ → Expr → Place → Place → Type 0
IsExpr reads zero e p q = ⊥
IsExpr reads (suc depth) e p q = IsPair (IsExpr reads depth) e p q ⊎ (IsLiteral e p q ⊎ IsAttr reads e p q)

-- [ expr cmp expr ]
abbrev pub IsTest : Form Expr → Cond → Place → Place → Type 0
IsTest form c p q = IsBracketed with_comparison comparison_mark marks.OpenTest marks.CloseTest form c p q

-- ( cond and cond )
abbrev pub IsJoined : Form Cond → Cond → Place → Place → Type 0
IsJoined form c p q = IsBracketed with_joint joint_mark marks.Open marks.Close form c p q

-- not cond
pub record IsNot (form : Form Cond) (c : Cond) (p q : Place) : Type 0 where
  pub a : Cond
  pub made : test.Not a ≡ c
  pub inside : Place
  pub opened : IsNode marks.Not p inside
  pub part : form a inside q

abbrev pub IsCond : List ObjectId → ℕ → Cond → Place → Place → Type 0
IsCond reads zero c p q = ⊥
IsCond reads (suc depth) c p q = IsTest (IsExpr reads depth) c p q ⊎ (IsJoined (IsCond reads depth) c p q ⊎ IsNot (IsCond reads depth) c p q)

-- one after the other
abbrev pub AreAll : {A P : Type 0} → (A → P → P → Type 0) → List A → P → P → Type 0
AreAll form [] p q = p ≡ q
AreAll {P = P} form (x ∷ xs) p q = (next : P) × form x p next × AreAll form xs next q

-- { stmts }
pub record IsBlock (form : Form Stmt) (body : List Stmt) (p q : Place) : Type 0 where
  pub inside : Place
  pub end : Place
  pub opened : IsMark marks.OpenBlock p inside
  pub stmts : AreAll form body inside end
  pub closed : IsMark marks.CloseBlock end q

-- set ref expr ; (the ref is no node)
pub record IsSet (reads : List ObjectId) (form : Form Expr) (s : Stmt) (p q : Place) : Type 0 where
  pub slot : ℕ
  pub attr : ℕ
  pub e : Expr
  pub made : stmt.Set slot attr e ≡ s
  pub one : Place
  pub two : List Lexeme
  pub three : Place
  pub word : IsNode marks.Set p one
  pub target : IsRef reads slot attr one.1 two
  pub value : form e (one.0, two) three
  pub closed : IsMark marks.Semicolon three q

-- else block
pub record IsElse (form : Form Stmt) (body : List Stmt) (p q : Place) : Type 0 where
  pub inside : Place
  pub word : IsMark marks.Else p inside
  pub block : IsBlock form body inside q

-- No `else` is the same as an empty block behind one.
abbrev pub MayBeElse : (Form Stmt) → List Stmt → Place → Place → Type 0
MayBeElse form body p q = IsElse form body p q ⊎ ((body ≡ []) × (p ≡ q))

-- if cond block else block
pub record IsIf (tests : Form Cond) (form : Form Stmt) (s : Stmt) (p q : Place) : Type 0 where
  pub c : Cond
  pub body : List Stmt
  pub other : List Stmt
  pub made : stmt.If c body other ≡ s
  pub one : Place
  pub two : Place
  pub three : Place
  pub word : IsNode marks.If p one
  pub test : tests c one two
  pub block : IsBlock form body two three
  pub behind : MayBeElse form other three q

abbrev pub IsStmt : List ObjectId → ℕ → Stmt → Place → Place → Type 0
IsStmt reads zero s p q = ⊥
IsStmt reads (suc depth) s p q = IsSet reads (IsExpr reads depth) s p q ⊎ IsIf (IsCond reads depth) (IsStmt reads depth) s p q

-- a word or sign before the body
abbrev pub IsWord : Mark → List Lexeme → List Lexeme → Type 0
IsWord m text rest = (front text ≡ Some m) × (rest_of text ≡ rest)

-- an object's number
abbrev pub IsObject : ObjectId → List Lexeme → List Lexeme → Type 0
IsObject o text rest = (o.0 < 65536) × IsNumber (pos o.0) text rest

-- each at least so much, and above the one before it
abbrev pub IsAscending : ℕ → List ObjectId → Type 0
IsAscending least [] = Unit {0}
IsAscending least (o ∷ os) = (least ≤ o.0) × IsAscending (o.0 + 1) os

-- the bits of these objects' slots, beside those of another mask
abbrev pub IsMask : List ObjectId → ℕ → List ObjectId → ℕ → Type 0
IsMask reads before [] mask = before ≡ mask
IsMask reads before (o ∷ os) mask = (k : ℕ) × (slot_from 0 reads o.0 ≡ Some k) × IsMask reads (bit_or before (2 ^ k)) os mask

-- reads objects writes
pub record AreReads (reads : List ObjectId) (text rest : List Lexeme) : Type 0 where
  pub one : List Lexeme
  pub two : List Lexeme
  pub word : IsWord marks.Reads text one
  pub objects : AreAll IsObject reads one two
  pub behind : IsWord marks.Writes two rest
  pub ascending : IsAscending 0 reads
  pub some : 0 < length reads
  pub few : length reads ≤ most_reads

-- the written objects, which are read
pub record AreWrites (reads : List ObjectId) (mask : ℕ) (text rest : List Lexeme) : Type 0 where
  pub objects : List ObjectId
  pub here : AreAll IsObject objects text rest
  pub ascending : IsAscending 0 objects
  pub bits : IsMask reads 0 objects mask

abbrev pub IsCoordinate : ℤ → List Lexeme → List Lexeme → Type 0
IsCoordinate z text rest = (int_le least_coordinate z ≡ true) × (int_le z greatest_coordinate ≡ true) × IsNumber z text rest

-- at number number
pub record IsOrigin (p : Point) (text rest : List Lexeme) : Type 0 where
  pub one : List Lexeme
  pub two : List Lexeme
  pub word : IsWord marks.At text one
  pub x : IsCoordinate p.x one two
  pub y : IsCoordinate p.y two rest

-- No origin is the same as (0, 0).
abbrev pub MayBeOrigin : Point → List Lexeme → List Lexeme → Type 0
MayBeOrigin p text rest = IsOrigin p text rest ⊎ ((p.x ≡ pos 0) × (p.y ≡ pos 0) × (text ≡ rest))

-- The tokens are a text of this action. Its body starts at most 64 nodes, of which at most 8 stand above one another.
pub record IsActionText (a : Action) (text : List Lexeme) : Type 0 where
  pub one : List Lexeme
  pub two : List Lexeme
  pub three : List Lexeme
  pub four : Place
  pub five : Place
  pub reads : AreReads a.reads text one
  pub writes : AreWrites a.reads a.mask one two
  pub origin : MayBeOrigin a.origin two three
  pub body : IsBlock (IsStmt a.reads most_depth) a.body (0, three) four
  pub end : IsMark marks.End four five
