-- What is read as an action is a text of it.
use Rattle.std.proofs.Common.{◌≡◌, ℕ, ◌+◌, ◌<◌, ◌≤◌, ◌^◌, inl, inr, Bool, true, false, cond, ◌&&◌, ltb, List, [], ◌∷◌, ◌++◌, length, Some, Result, Ok, Err, refl, sym, ap, subst, ◌∙◌, append_assoc, arith, bit_or}
use Rattle.std.specs.Prelude.{ℤ, pos, negsuc, int_le}
use Rattle.std.proofs.lemmas.Bool.{ltb-true, ltb-false, leb-true, and_parts}
use Rattle.std.proofs.lemmas.List.{append-nil, length-append}
use Rattle.sv_world.specs.declared.world.ObjectId.{ObjectId}
use Rattle.sv_world.specs.declared.action.Point.{Point}
use Rattle.sv_world.specs.declared.action.Action.{Action}
use Rattle.sv_world.specs.declared.action.Stmt.{Stmt}
use Rattle.sv_world.specs.Sets.{object_numbered}
use Rattle.sv_text.specs.declared.fault.TextCause.TheVariants as causes
use Rattle.sv_text.specs.declared.fault.TextFault.{TextFault}
use Rattle.sv_text.specs.declared.token.Mark.TheVariants as marks
use Rattle.sv_text.specs.declared.token.Token.{Token}
use Rattle.sv_text.specs.declared.token.Token.TheVariants as tokens
use Rattle.sv_text.specs.declared.token.Lexeme.{Lexeme}
use Rattle.sv_text.specs.Reading.{◌>>=◌, is_at, rest_of, fault, unexpected, expect, number_by, number_at, size_of, object_number_at, read_at, ends_reads, reads_from, slot_from, slot_at, write_at, is_number_at, writes_from, coordinate_at, origin_at, header_at, block_by, stmt_at, body_at, reading}
use Rattle.sv_text.specs.Grammar.{IsNumber, AreAll, IsBlock, IsStmt, IsWord, IsObject, IsAscending, IsMask, AreReads, IsCoordinate, MayBeOrigin, IsActionText}
use Rattle.sv_text.proofs.Found.{bind_ok, chosen, ok_is, no_err, is_at_is, expect_is, slot_at_is}
use Rattle.sv_text.proofs.FoundBody.{body_found}

abbrev Within : ℤ → ℤ → ℤ → List Lexeme → List Lexeme → Type 0
Within low high z text rest = (int_le low z ≡ true) × (int_le z high ≡ true) × IsNumber z text rest

number_by_is : (low high : ℤ) (t : Lexeme) (ts : List Lexeme) (z : ℤ) (glued : Bool) (token : Token) → t.glued ≡ glued → t.token ≡ token → number_by low high (t ∷ ts) glued token ≡ Ok z → Within low high z (t ∷ ts) ts
number_by_is low high t ts z glued (tokens.Number w) g k e =
    elim (chosen (int_le low w && int_le w high) (cond glued (Err (fault (t ∷ ts) causes.Expected)) (Ok w)) (Err (fault (t ∷ ts) causes.Number)) (Ok z) e) [
      | inl h ↦ elim (chosen glued (Err (fault (t ∷ ts) causes.Expected)) (Ok w) (Ok z) h.1) [
        | inl f ↦ no_err (fault (t ∷ ts) causes.Expected) z f.1
        | inr f ↦
            let both = and_parts (int_le low w) (int_le w high) h.0 in
            subst (λ (v : ℤ). Within low high v (t ∷ ts) ts) (ok_is w z f.1) (both.0, both.1, (k, g ∙ f.0, refl))
      ]
      | inr h ↦ no_err (fault (t ∷ ts) causes.Number) z h.1
    ]
number_by_is low high t ts z glued tokens.Wide g k e = no_err _ z e
number_by_is low high t ts z glued (tokens.Ref object attr) g k e = no_err _ z e
number_by_is low high t ts z glued (tokens.Mark m) g k e = no_err _ z e
number_by_is low high t ts z glued (tokens.Bad cause) g k e = no_err _ z e

number_at_is : (low high : ℤ) (ts : List Lexeme) (z : ℤ) → number_at low high ts ≡ Ok z → Within low high z ts (rest_of ts)
unfolding number_at
number_at_is low high [] z e = no_err _ z e
number_at_is low high (t ∷ ts) z e = number_by_is low high t ts z t.glued t.token refl refl e

object_is : (z : ℤ) (o : ℕ) (text rest : List Lexeme) → Within (pos 0) (pos 65535) z text rest → size_of z ≡ o → IsObject (object_numbered o) text rest
object_is (pos n) o text rest w e = subst (λ (k : ℕ). IsObject (object_numbered k) text rest) e (let le : n ≤ 65535 = leb-true n 65535 w.1 in omega arith, w.2)
object_is (negsuc n) o text rest w e = absurd (let no_way : false ≡ true = w.0 in cc)

object_at_is : (ts : List Lexeme) (o : ℕ) → object_number_at ts ≡ Ok o → IsObject (object_numbered o) ts (rest_of ts)
unfolding object_number_at
object_at_is ts o e =
    let z = bind_ok (number_at (pos 0) (pos 65535) ts) (λ z. Ok (size_of z)) o e in
    object_is z.0 o ts (rest_of ts) (number_at_is (pos 0) (pos 65535) ts z.0 z.1) (ok_is (size_of z.0) o z.2)

read_at_is : (count least : ℕ) (ts : List Lexeme) (o : ℕ) → read_at count least ts ≡ Ok o → (least ≤ o) × (count < 16) × IsObject (object_numbered o) ts (rest_of ts)
unfolding read_at
read_at_is count least ts o e =
    let r = bind_ok (object_number_at ts) (λ o. cond (ltb o least) (Err (fault ts causes.Order)) (cond (ltb count 16) (Ok o) (Err (fault ts causes.TooMany)))) o e in
    elim (chosen (ltb r.0 least) (Err (fault ts causes.Order)) (cond (ltb count 16) (Ok r.0) (Err (fault ts causes.TooMany))) (Ok o) r.2) [
      | inl h ↦ no_err (fault ts causes.Order) o h.1
      | inr h ↦ elim (chosen (ltb count 16) (Ok r.0) (Err (fault ts causes.TooMany)) (Ok o) h.1) [
        | inl k ↦ subst (λ (j : ℕ). (least ≤ j) × (count < 16) × IsObject (object_numbered j) ts (rest_of ts)) (ok_is r.0 o k.1) (ltb-false r.0 least h.0, ltb-true count 16 k.0, object_at_is ts r.0 r.1)
        | inr k ↦ no_err (fault ts causes.TooMany) o k.1
      ]
    ]

-- what follows the reads before, up to `writes`
abbrev MoreReads : List ObjectId → ℕ → List Lexeme → List ObjectId → List Lexeme → Type 0
MoreReads before least text reads rest =
    (more : List ObjectId) × (before ++ more ≡ reads) × (end : List Lexeme) × AreAll IsObject more text end × IsWord marks.Writes end rest × IsAscending least more × (0 < length reads) × (length reads ≤ 16)

reads_found : (before : List ObjectId) (least : ℕ) (ts : List Lexeme) (x : List ObjectId × List Lexeme) → length before ≤ 16 → reads_from before least ts ≡ Ok x → MoreReads before least ts x.0 x.1
unfolding reads_from
reads_found before least [] x few e = no_err (unexpected []) x e
reads_found before least (t ∷ ts) x few e =
    elim (chosen (ends_reads (length before) (t ∷ ts)) (Ok (before, ts)) (read_at (length before) least (t ∷ ts) >>= λ o. reads_from (before ++ object_numbered o ∷ []) (o + 1) ts) (Ok x) e) [
      | inl h ↦
          let both = and_parts (ltb 0 (length before)) (is_at marks.Writes (t ∷ ts)) h.0 in
          let made : List ObjectId × List Lexeme = (before, ts) in
          subst (λ (y : List ObjectId × List Lexeme). MoreReads before least (t ∷ ts) y.0 y.1) (ok_is made x h.1)
          ([], append-nil before, t ∷ ts, refl, (is_at_is marks.Writes (t ∷ ts) both.1, refl), tt, ltb-true 0 (length before) both.0, few)
      | inr h ↦
          let o = bind_ok (read_at (length before) least (t ∷ ts)) (λ o. reads_from (before ++ object_numbered o ∷ []) (o + 1) ts) x h.1 in
          let k = read_at_is (length before) least (t ∷ ts) o.0 o.1 in
          let longer : length (before ++ object_numbered o.0 ∷ []) ≤ 16 = omega (arith, length-append before (object_numbered o.0 ∷ []), k.1) in
          let r = reads_found (before ++ object_numbered o.0 ∷ []) (o.0 + 1) ts x longer o.2 in
          (object_numbered o.0 ∷ r.0, sym (append_assoc before (object_numbered o.0 ∷ []) r.0) ∙ r.1, r.2, (ts, k.2, r.3), r.4, (k.0, r.5), r.6, r.7)
    ]

header_found : (ts : List Lexeme) (x : List ObjectId × List Lexeme) → header_at ts ≡ Ok x → AreReads x.0 ts x.1
unfolding header_at
header_found ts x e =
    let w = bind_ok (expect marks.Reads ts) (λ rest. reads_from [] 0 rest) x e in
    let r = reads_found [] 0 w.0 x (omega arith) w.2 in
    record {
      one = w.0;
      two = r.2;
      word = expect_is marks.Reads ts w.0 w.1;
      objects = subst (λ (os : List ObjectId). AreAll IsObject os w.0 r.2) r.1 r.3;
      behind = r.4;
      ascending = subst (λ (os : List ObjectId). IsAscending 0 os) r.1 r.5;
      some = r.6;
      few = r.7;
    }

write_at_is : (reads : List ObjectId) (least : ℕ) (ts : List Lexeme) (w : ℕ × ℕ) → write_at reads least ts ≡ Ok w → (least ≤ w.0) × (slot_from 0 reads w.0 ≡ Some w.1) × IsObject (object_numbered w.0) ts (rest_of ts)
unfolding write_at
write_at_is reads least ts w e =
    let o = bind_ok (object_number_at ts) (λ o. slot_at reads o ts >>= λ k. cond (ltb o least) (Err (fault ts causes.Order)) (Ok (o, k))) w e in
    let k = bind_ok (slot_at reads o.0 ts) (λ k. cond (ltb o.0 least) (Err (fault ts causes.Order)) (Ok (o.0, k))) w o.2 in
    let made : ℕ × ℕ = (o.0, k.0) in
    elim (chosen (ltb o.0 least) (Err (fault ts causes.Order)) (Ok made) (Ok w) k.2) [
      | inl h ↦ no_err (fault ts causes.Order) w h.1
      | inr h ↦ subst (λ (y : ℕ × ℕ). (least ≤ y.0) × (slot_from 0 reads y.0 ≡ Some y.1) × IsObject (object_numbered y.0) ts (rest_of ts)) (ok_is made w h.1)
          (ltb-false o.0 least h.0, slot_at_is reads o.0 ts k.0 k.1, object_at_is ts o.0 o.1)
    ]

abbrev wrote : ℕ × List Lexeme → Result (ℕ × List Lexeme) TextFault
wrote x = Ok x

abbrev MoreWrites : List ObjectId → ℕ → ℕ → List Lexeme → ℕ → List Lexeme → Type 0
MoreWrites reads before least text mask rest = (os : List ObjectId) × AreAll IsObject os text rest × IsAscending least os × IsMask reads before os mask

no_writes : (reads : List ObjectId) (mask least : ℕ) (ts : List Lexeme) (x : ℕ × List Lexeme) → wrote (mask, ts) ≡ wrote x → MoreWrites reads mask least ts x.0 x.1
no_writes reads mask least ts x e =
    let made : ℕ × List Lexeme = (mask, ts) in
    subst (λ (y : ℕ × List Lexeme). MoreWrites reads mask least ts y.0 y.1) (ok_is made x e) ([], refl, tt, refl)

writes_found : (reads : List ObjectId) (mask least : ℕ) (ts : List Lexeme) (x : ℕ × List Lexeme) → writes_from reads mask least ts ≡ Ok x → MoreWrites reads mask least ts x.0 x.1
unfolding writes_from
writes_found reads mask least [] x e = no_writes reads mask least [] x e
writes_found reads mask least (t ∷ ts) x e =
    elim (chosen (is_number_at (t ∷ ts)) (write_at reads least (t ∷ ts) >>= λ w. writes_from reads (bit_or mask (2 ^ w.1)) (w.0 + 1) ts) (Ok (mask, t ∷ ts)) (Ok x) e) [
      | inl h ↦
          let w = bind_ok (write_at reads least (t ∷ ts)) (λ w. writes_from reads (bit_or mask (2 ^ w.1)) (w.0 + 1) ts) x h.1 in
          let k = write_at_is reads least (t ∷ ts) w.0 w.1 in
          let r = writes_found reads (bit_or mask (2 ^ w.0.1)) (w.0.0 + 1) ts x w.2 in
          (object_numbered w.0.0 ∷ r.0, (ts, k.2, r.1), (k.0, r.2), (w.0.1, k.1, r.3))
      | inr h ↦ no_writes reads mask least (t ∷ ts) x h.1
    ]

coordinate_is : (ts : List Lexeme) (z : ℤ) → coordinate_at ts ≡ Ok z → IsCoordinate z ts (rest_of ts)
unfolding coordinate_at
coordinate_is ts z e = number_at_is (negsuc 999999) (pos 1000000) ts z e

abbrev point : ℤ → ℤ → Point
point x y = record { x = x; y = y }

origin_found : (ts : List Lexeme) (x : Point × List Lexeme) → origin_at ts ≡ Ok x → MayBeOrigin x.0 ts x.1
unfolding origin_at
origin_found ts x e =
    elim (chosen (is_at marks.At ts) (coordinate_at (rest_of ts) >>= λ a. coordinate_at (rest_of (rest_of ts)) >>= λ b. Ok (point a b, rest_of (rest_of (rest_of ts)))) (Ok (point (pos 0) (pos 0), ts)) (Ok x) e) [
      | inl h ↦
          let a = bind_ok (coordinate_at (rest_of ts)) (λ a. coordinate_at (rest_of (rest_of ts)) >>= λ b. Ok (point a b, rest_of (rest_of (rest_of ts)))) x h.1 in
          let b = bind_ok (coordinate_at (rest_of (rest_of ts))) (λ b. Ok (point a.0 b, rest_of (rest_of (rest_of ts)))) x a.2 in
          let made : Point × List Lexeme = (point a.0 b.0, rest_of (rest_of (rest_of ts))) in
          subst (λ (y : Point × List Lexeme). MayBeOrigin y.0 ts y.1) (ok_is made x b.2) (inl (record {
            one = rest_of ts;
            two = rest_of (rest_of ts);
            word = (is_at_is marks.At ts h.0, refl);
            x = coordinate_is (rest_of ts) a.0 a.1;
            y = coordinate_is (rest_of (rest_of ts)) b.0 b.1;
          }))
      | inr h ↦
          let made : Point × List Lexeme = (point (pos 0) (pos 0), ts) in
          subst (λ (y : Point × List Lexeme). MayBeOrigin y.0 ts y.1) (ok_is made x h.1) (inr (refl, refl, refl))
    ]

pub action_found : (ts : List Lexeme) (a : Action) → reading ts ≡ Ok a → IsActionText a ts
unfolding reading body_at
action_found ts a e =
    let r = bind_ok (header_at ts) (λ r. writes_from r.0 0 0 r.1 >>= λ w. origin_at w.1 >>= λ p. body_at r.0 p.1 >>= λ body. Ok (record { reads = r.0; mask = w.0; origin = p.0; body = body })) a e in
    let w = bind_ok (writes_from r.0.0 0 0 r.0.1) (λ w. origin_at w.1 >>= λ p. body_at r.0.0 p.1 >>= λ body. Ok (record { reads = r.0.0; mask = w.0; origin = p.0; body = body })) a r.2 in
    let p = bind_ok (origin_at w.0.1) (λ p. body_at r.0.0 p.1 >>= λ body. Ok (record { reads = r.0.0; mask = w.0.0; origin = p.0; body = body })) a w.2 in
    let b = bind_ok (body_at r.0.0 p.0.1) (λ body. Ok (record { reads = r.0.0; mask = w.0.0; origin = p.0.0; body = body })) a p.2 in
    let c = bind_ok (block_by (stmt_at r.0.0 8) 0 p.0.1) (λ body. expect marks.End body.2 >>= λ _. Ok body.0) b.0 b.1 in
    let d = bind_ok (expect marks.End c.0.2) (λ _. Ok c.0.0) b.0 c.2 in
    let end = expect_is marks.End c.0.2 d.0 d.1 in
    let made : Action = record { reads = r.0.0; mask = w.0.0; origin = p.0.0; body = b.0 } in
    let m = writes_found r.0.0 0 0 r.0.1 w.0 w.1 in
    subst (λ (y : Action). IsActionText y ts) (ok_is made a b.2) (record {
      one = r.0.1;
      two = w.0.1;
      three = p.0.1;
      four = (c.0.1, c.0.2);
      five = (c.0.1, d.0);
      reads = header_found ts r.0 r.1;
      writes = record { objects = m.0; here = m.1; ascending = m.2; bits = m.3 };
      origin = origin_found w.0.1 p.0 p.1;
      body = subst (λ (body : List Stmt). IsBlock (IsStmt r.0.0 8) body (0, p.0.1) (c.0.1, c.0.2)) (ok_is c.0.0 b.0 d.2) (body_found r.0.0 8 0 p.0.1 c.0 c.1);
      end = (end.0, ap (λ (l : List Lexeme). (c.0.1, l)) end.1);
    })
