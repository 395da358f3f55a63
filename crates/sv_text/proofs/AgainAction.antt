-- A text of an action is read as that action.
use Rattle.std.proofs.Common.{◌≡◌, ℕ, ◌+◌, ◌<◌, ◌≤◌, ◌^◌, inl, inr, Bool, true, false, cond, ltb, List, [], ◌∷◌, ◌++◌, length, Some, Result, Ok, Err, refl, sym, ap, subst, ◌∙◌, append_assoc, arith, bit_or}
use Rattle.std.specs.Prelude.{ℤ, pos, negsuc, int_le}
use Rattle.std.proofs.lemmas.Bool.{lt-ltb, le-ltb, le-leb, and_from, and_right}
use Rattle.std.proofs.lemmas.List.{append-nil, length-append}
use Rattle.sv_world.specs.declared.world.ObjectId.{ObjectId}
use Rattle.sv_world.specs.declared.action.Point.{Point}
use Rattle.sv_world.specs.declared.action.Action.{Action}
use Rattle.sv_world.specs.declared.action.Stmt.{Stmt}
use Rattle.sv_world.specs.Sets.{object_numbered}
use Rattle.sv_text.specs.declared.fault.TextCause.TheVariants as causes
use Rattle.sv_text.specs.declared.fault.TextFault.{TextFault}
use Rattle.sv_text.specs.declared.token.Mark.{Mark}
use Rattle.sv_text.specs.declared.token.Mark.TheVariants as marks
use Rattle.sv_text.specs.declared.token.Token.{Token}
use Rattle.sv_text.specs.declared.token.Token.TheVariants as tokens
use Rattle.sv_text.specs.declared.token.Lexeme.{Lexeme}
use Rattle.sv_text.specs.Reading.{◌>>=◌, is_at, mark_of, front_of, front, rest_of, fault, expect, number_by, number_at, size_of, object_number_at, read_at, reads_from, slot_from, slot_at, write_at, is_number_token, is_number_at, writes_from, coordinate_at, origin_at, header_at, block_by, stmt_at, body_at, reading}
use Rattle.sv_text.specs.Grammar.{Place, IsMark, IsNumber, AreAll, IsBlock, IsStmt, IsWord, IsObject, IsAscending, IsMask, AreReads, IsCoordinate, MayBeOrigin, IsActionText}
use Rattle.sv_text.proofs.Turns.{reads_from_is, writes_from_is}
use Rattle.sv_text.proofs.Again.{then_ok, at_mark, not_at, not_at_none, expect_again, slot_again, front_number}
use Rattle.sv_text.proofs.AgainBody.{body_again}

abbrev ok : {A : Type 0} → A → Result A TextFault
ok x = Ok x

-- ---- numbers

number_again : (low high z : ℤ) (ts rest : List Lexeme) → IsNumber z ts rest → int_le low z ≡ true → int_le z high ≡ true → number_at low high ts ≡ Ok z
unfolding number_at
number_again low high z [] rest h l k = absurd h
number_again low high z (t ∷ ts) rest h l k =
    let late : Result ℤ TextFault = Err (fault (t ∷ ts) causes.Expected) in
    let out : Result ℤ TextFault = Err (fault (t ∷ ts) causes.Number) in
    ap (number_by low high (t ∷ ts) t.glued) h.0
    ∙ ap (λ (b : Bool). cond b (cond t.glued late (Ok z)) out) (and_from (int_le low z) (int_le z high) l k)
    ∙ ap (λ (g : Bool). cond g late (Ok z)) h.1

number_there : (z : ℤ) (ts rest : List Lexeme) → IsNumber z ts rest → is_number_at ts ≡ true
unfolding is_number_at
number_there z [] rest h = absurd h
number_there z (t ∷ ts) rest h = ap is_number_token h.0

no_number_by : (m : Mark) (glued : Bool) (token : Token) → front_of glued (mark_of token) ≡ Some m → is_number_token token ≡ false
no_number_by m glued (tokens.Number z) h = absurd cc
no_number_by m glued tokens.Wide h = absurd cc
no_number_by m glued (tokens.Ref object attr) h = refl
no_number_by m glued (tokens.Mark n) h = refl
no_number_by m glued (tokens.Bad cause) h = refl

no_number : (m : Mark) (ts : List Lexeme) → front ts ≡ Some m → is_number_at ts ≡ false
unfolding front is_number_at
no_number m [] h = refl
no_number m (t ∷ ts) h = no_number_by m t.glued t.token h

object_again : (o : ObjectId) (ts rest : List Lexeme) → IsObject o ts rest → object_number_at ts ≡ Ok o.0
unfolding object_number_at
object_again o ts rest h =
    let high : o.0 ≤ 65535 = let lt : o.0 < 65536 = h.0 in omega arith in
    then_ok (number_at (pos 0) (pos 65535) ts) (λ z. Ok (size_of z)) (pos o.0) (Ok o.0) (number_again (pos 0) (pos 65535) (pos o.0) ts rest h.1 (le-leb 0 o.0 (omega arith)) (le-leb o.0 65535 high)) refl

-- ---- reads

read_again : (count least : ℕ) (o : ObjectId) (ts rest : List Lexeme) → IsObject o ts rest → least ≤ o.0 → count < 16 → read_at count least ts ≡ Ok o.0
unfolding read_at
read_again count least o ts rest h le lt =
    let order : Result ℕ TextFault = Err (fault ts causes.Order) in
    let many : Result ℕ TextFault = Err (fault ts causes.TooMany) in
    then_ok (object_number_at ts) (λ o. cond (ltb o least) (Err (fault ts causes.Order)) (cond (ltb count 16) (Ok o) (Err (fault ts causes.TooMany)))) o.0 (Ok o.0) (object_again o ts rest h)
    (ap (λ (b : Bool). cond b order (cond (ltb count 16) (Ok o.0) many)) (le-ltb o.0 least le) ∙ ap (λ (b : Bool). cond b (ok o.0) many) (lt-ltb count 16 lt))

reads_again : (before more : List ObjectId) (least : ℕ) (ts end rest : List Lexeme) → AreAll IsObject more ts end → IsWord marks.Writes end rest → IsAscending least more → length (before ++ more) ≤ 16 → 0 < length (before ++ more)
    → reads_from before least ts ≡ ok (before ++ more, rest)
reads_again before [] least ts end rest h w up few some =
    let here : front ts ≡ Some marks.Writes = ap front h ∙ w.0 in
    let len : 0 < length before = omega (arith, length-append before []) in
    let full : before ++ [] ≡ before = append-nil before in
    let next : rest_of ts ≡ rest = ap rest_of h ∙ w.1 in
    reads_from_is before least ts
    ∙ ap (λ (b : Bool). cond b (ok (before, rest_of ts)) (read_at (length before) least ts >>= λ o. reads_from (before ++ object_numbered o ∷ []) (o + 1) (rest_of ts)))
    (and_from (ltb 0 (length before)) (is_at marks.Writes ts) (lt-ltb 0 (length before) len) (at_mark marks.Writes ts here))
    ∙ ap (λ (l : List Lexeme). ok (before, l)) next ∙ ap (λ (l : List ObjectId). ok (l, rest)) (sym full)
reads_again before (o ∷ os) least ts end rest h w up few some =
    let f = front_number (pos o.0) ts h.0 h.1.1 in
    let room : length before < 16 = omega (arith, length-append before (o ∷ os)) in
    let step : List ObjectId → Result (List ObjectId × List Lexeme) TextFault = λ l. reads_from l (o.0 + 1) (rest_of ts) in
    let regroup : (before ++ o ∷ []) ++ os ≡ before ++ o ∷ os = append_assoc before (o ∷ []) os in
    let more = reads_again (before ++ o ∷ []) os (o.0 + 1) h.0 end rest h.2 w up.1 (subst (λ (l : List ObjectId). length l ≤ 16) (sym regroup) few) (subst (λ (l : List ObjectId). 0 < length l) (sym regroup) some) in
    reads_from_is before least ts
    ∙ ap (λ (b : Bool). cond b (ok (before, rest_of ts)) (read_at (length before) least ts >>= λ o. reads_from (before ++ object_numbered o ∷ []) (o + 1) (rest_of ts)))
    (and_right (ltb 0 (length before)) (is_at marks.Writes ts) (not_at_none marks.Writes ts f.0))
    ∙ then_ok (read_at (length before) least ts) (λ o. reads_from (before ++ object_numbered o ∷ []) (o + 1) (rest_of ts)) o.0 (ok (before ++ o ∷ os, rest)) (read_again (length before) least o ts h.0 h.1 up.0 room)
    (ap (λ (l : List Lexeme). reads_from (before ++ o ∷ []) (o.0 + 1) l) f.1 ∙ more ∙ ap (λ (l : List ObjectId). ok (l, rest)) regroup)

header_again : (reads : List ObjectId) (ts rest : List Lexeme) → AreReads reads ts rest → header_at ts ≡ ok (reads, rest)
unfolding header_at
header_again reads ts rest r =
    then_ok (expect marks.Reads ts) (λ rest. reads_from [] 0 rest) (rest_of ts) (ok (reads, rest)) (expect_again marks.Reads ts r.word.0)
    (ap (reads_from [] 0) r.word.1 ∙ reads_again [] reads 0 r.one r.two rest r.objects r.behind r.ascending r.few r.some)

-- ---- writes

write_again : (reads : List ObjectId) (least k : ℕ) (o : ObjectId) (ts rest : List Lexeme) → IsObject o ts rest → least ≤ o.0 → slot_from 0 reads o.0 ≡ Some k → write_at reads least ts ≡ ok (o.0, k)
unfolding write_at
write_again reads least k o ts rest h le slot =
    let order : Result (ℕ × ℕ) TextFault = Err (fault ts causes.Order) in
    then_ok (object_number_at ts) (λ o. slot_at reads o ts >>= λ k. cond (ltb o least) (Err (fault ts causes.Order)) (Ok (o, k))) o.0 (ok (o.0, k)) (object_again o ts rest h)
    (then_ok (slot_at reads o.0 ts) (λ k. cond (ltb o.0 least) (Err (fault ts causes.Order)) (Ok (o.0, k))) k (ok (o.0, k)) (slot_again reads o.0 ts k slot)
    (ap (λ (b : Bool). cond b order (ok (o.0, k))) (le-ltb o.0 least le)))

writes_again : (reads : List ObjectId) (mask least : ℕ) (os : List ObjectId) (ts rest : List Lexeme) (all : ℕ) → AreAll IsObject os ts rest → IsAscending least os → IsMask reads mask os all → is_number_at rest ≡ false
    → writes_from reads mask least ts ≡ ok (all, rest)
writes_again reads mask least [] ts rest all h up bits last =
    writes_from_is reads mask least ts
    ∙ ap (λ (b : Bool). cond b (write_at reads least ts >>= λ w. writes_from reads (bit_or mask (2 ^ w.1)) (w.0 + 1) (rest_of ts)) (ok (mask, ts))) (ap is_number_at h ∙ last)
    ∙ ap (λ (l : List Lexeme). ok (mask, l)) h ∙ ap (λ (m : ℕ). ok (m, rest)) bits
writes_again reads mask least (o ∷ os) ts rest all h up bits last =
    let f = front_number (pos o.0) ts h.0 h.1.1 in
    writes_from_is reads mask least ts
    ∙ ap (λ (b : Bool). cond b (write_at reads least ts >>= λ w. writes_from reads (bit_or mask (2 ^ w.1)) (w.0 + 1) (rest_of ts)) (ok (mask, ts))) (number_there (pos o.0) ts h.0 h.1.1)
    ∙ then_ok (write_at reads least ts) (λ w. writes_from reads (bit_or mask (2 ^ w.1)) (w.0 + 1) (rest_of ts)) (o.0, bits.0) (ok (all, rest)) (write_again reads least bits.0 o ts h.0 h.1 up.0 bits.1)
    (ap (writes_from reads (bit_or mask (2 ^ bits.0)) (o.0 + 1)) f.1 ∙ writes_again reads (bit_or mask (2 ^ bits.0)) (o.0 + 1) os h.0 rest all h.2 up.1 bits.2 last)

-- ---- origin and the whole

abbrev point : ℤ → ℤ → Point
point x y = record { x = x; y = y }

coordinate_again : (z : ℤ) (ts rest : List Lexeme) → IsCoordinate z ts rest → (coordinate_at ts ≡ Ok z) × (rest_of ts ≡ rest)
unfolding coordinate_at
coordinate_again z ts rest c = (number_again (negsuc 999999) (pos 1000000) z ts rest c.2 c.0 c.1, (front_number z ts rest c.2).1)

origin_again : (p : Point) (ts rest : List Lexeme) → MayBeOrigin p ts rest → front rest ≡ Some marks.OpenBlock → origin_at ts ≡ ok (p, rest)
unfolding origin_at
origin_again p ts rest (inl i) last =
    let here : Result (Point × List Lexeme) TextFault = Ok (point (pos 0) (pos 0), ts) in
    let cx = coordinate_again p.x i.one i.two i.x in
    let cy = coordinate_again p.y i.two rest i.y in
    let two : rest_of (rest_of ts) ≡ i.two = ap rest_of i.word.1 ∙ cx.1 in
    ap (λ (b : Bool). cond b (coordinate_at (rest_of ts) >>= λ x. coordinate_at (rest_of (rest_of ts)) >>= λ y. Ok (point x y, rest_of (rest_of (rest_of ts)))) here) (at_mark marks.At ts i.word.0)
    ∙ then_ok (coordinate_at (rest_of ts)) (λ x. coordinate_at (rest_of (rest_of ts)) >>= λ y. Ok (point x y, rest_of (rest_of (rest_of ts)))) p.x (ok (p, rest)) (ap coordinate_at i.word.1 ∙ cx.0)
    (then_ok (coordinate_at (rest_of (rest_of ts))) (λ y. Ok (point p.x y, rest_of (rest_of (rest_of ts)))) p.y (ok (p, rest)) (ap coordinate_at two ∙ cy.0)
    (ap (λ (l : List Lexeme). ok (p, l)) (ap rest_of two ∙ cy.1)))
origin_again p ts rest (inr h) last =
    let there : Result (Point × List Lexeme) TextFault = coordinate_at (rest_of ts) >>= λ x. coordinate_at (rest_of (rest_of ts)) >>= λ y. Ok (point x y, rest_of (rest_of (rest_of ts))) in
    ap (λ (b : Bool). cond b there (ok (point (pos 0) (pos 0), ts))) (not_at marks.At marks.OpenBlock ts (ap front h.2 ∙ last) refl)
    ∙ ap (λ (x : ℤ). ok (point x (pos 0), ts)) (sym h.0) ∙ ap (λ (y : ℤ). ok (point p.x y, ts)) (sym h.1) ∙ ap (λ (l : List Lexeme). ok (p, l)) h.2

body_once : (reads : List ObjectId) (body : List Stmt) (ts : List Lexeme) (four five : Place) → IsBlock (IsStmt reads 8) body (0, ts) four → IsMark marks.End four five → body_at reads ts ≡ ok body
unfolding body_at
body_once reads body ts four five b end =
    then_ok (block_by (stmt_at reads 8) 0 ts) (λ body. expect marks.End body.2 >>= λ _. Ok body.0) (body, four.0, four.1) (ok body) (body_again reads 8 body (0, ts) four (omega arith) b)
    (then_ok (expect marks.End four.1) (λ _. Ok body) (rest_of four.1) (ok body) (expect_again marks.End four.1 end.0) refl)

-- what stands behind the writes is a word or sign
behind_writes : (p : Point) (ts rest : List Lexeme) → MayBeOrigin p ts rest → front rest ≡ Some marks.OpenBlock → is_number_at ts ≡ false
behind_writes p ts rest (inl i) last = no_number marks.At ts i.word.0
behind_writes p ts rest (inr h) last = no_number marks.OpenBlock ts (ap front h.2 ∙ last)

pub action_again : (a : Action) (ts : List Lexeme) → IsActionText a ts → reading ts ≡ Ok a
unfolding reading
action_again a ts i =
    let last : front i.three ≡ Some marks.OpenBlock = i.body.opened.0 in
    then_ok (header_at ts) (λ r. writes_from r.0 0 0 r.1 >>= λ w. origin_at w.1 >>= λ p. body_at r.0 p.1 >>= λ body. Ok (record { reads = r.0; mask = w.0; origin = p.0; body = body })) (a.reads, i.one) (ok a) (header_again a.reads ts i.one i.reads)
    (then_ok (writes_from a.reads 0 0 i.one) (λ w. origin_at w.1 >>= λ p. body_at a.reads p.1 >>= λ body. Ok (record { reads = a.reads; mask = w.0; origin = p.0; body = body })) (a.mask, i.two) (ok a)
    (writes_again a.reads 0 0 i.writes.objects i.one i.two a.mask i.writes.here i.writes.ascending i.writes.bits (behind_writes a.origin i.two i.three i.origin last))
    (then_ok (origin_at i.two) (λ p. body_at a.reads p.1 >>= λ body. Ok (record { reads = a.reads; mask = a.mask; origin = p.0; body = body })) (a.origin, i.three) (ok a) (origin_again a.origin i.two i.three i.origin last)
    (then_ok (body_at a.reads i.three) (λ body. Ok (record { reads = a.reads; mask = a.mask; origin = a.origin; body = body })) a.body (ok a) (body_once a.reads a.body i.three i.four i.five i.body i.end) refl)))
