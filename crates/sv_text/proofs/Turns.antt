-- One turn of the loops over reads, writes and slots.
use Rattle.std.proofs.Common.{◌≡◌, ℕ, zero, suc, ◌+◌, ◌-◌, ◌*◌, ◌%◌, ◌^◌, ◌<◌, true, false, cond, eqb, ltb, List, [], ◌∷◌, ◌++◌, length, drop, get_or, Some, Result, Ok, Err, refl, sym, ap, ◌∙◌, arith, bit_or}
use Rattle.std.proofs.Math.Seq.{drop-cons}
use Rattle.std.proofs.Math.Bool.{and-false}
use Rattle.std.proofs.lemmas.Bool.{ne_eqb}
use Rattle.std.proofs.lemmas.Grind.{one_shifted}
use Rattle.sv_world.specs.declared.world.ObjectId.{ObjectId}
use Rattle.sv_world.specs.declared.action.Stmt.{Stmt}
use Rattle.sv_world.specs.Sets.{object_numbered}
use Rattle.sv_text.specs.declared.fault.TextCause.TheVariants as causes
use Rattle.sv_text.specs.declared.fault.TextFault.{TextFault}
use Rattle.sv_text.specs.declared.fault.ParseFault.{ParseFault}
use Rattle.sv_text.specs.declared.fault.ParseFault.TheVariants as faults
use Rattle.sv_text.specs.declared.token.Mark.TheVariants as marks
use Rattle.sv_text.specs.declared.token.Lexeme.{Lexeme}
use Rattle.sv_text.specs.Reading.{◌>>=◌, Read, Fails, fault, rest_of, read_at, ends_reads, reads_from, slot_from, write_at, is_number_at, writes_from, stmts_by, front, is_at, object_number_at, number_at}

pub slot_turn : (reads : List ObjectId) (i o : ℕ) (d : ObjectId) → i < length reads → slot_from i (drop i reads) o ≡ cond (eqb (get_or reads i d).0 o) (Some i) (slot_from (i + 1) (drop (i + 1) reads) o)
slot_turn reads i o d lt =
    let one : i + 1 ≡ suc i = omega arith in
    rw (drop-cons reads i d lt, one) refl

pub reads_from_is : (before : List ObjectId) (least : ℕ) (ts : List Lexeme) → reads_from before least ts ≡
    cond (ends_reads (length before) ts) (Ok (before, rest_of ts)) (read_at (length before) least ts >>= λ o. reads_from (before ++ object_numbered o ∷ []) (o + 1) (rest_of ts))
unfolding reads_from is_at front read_at object_number_at number_at
reads_from_is before least [] = rw (and-false (ltb 0 (length before))) refl
reads_from_is before least (t ∷ ts) = refl

-- one more read
pub reads_go_on : (before after : List ObjectId) (count least o : ℕ) (ts : List Lexeme) → count ≡ length before → ends_reads count ts ≡ false
    → read_at count least ts ≡ Ok o → after ≡ before ++ object_numbered o ∷ [] → reads_from after (o + 1) (rest_of ts) ≡ reads_from before least ts
reads_go_on before after count least o ts is goes read same =
    let ends : ends_reads (length before) ts ≡ false = rw (← is) goes in
    let one : read_at (length before) least ts ≡ Ok o = rw (← is) read in
    rw same (sym (rw (ends, one) at (reads_from_is before least ts)))

pub writes_from_is : (reads : List ObjectId) (mask least : ℕ) (ts : List Lexeme) → writes_from reads mask least ts ≡
    cond (is_number_at ts) (write_at reads least ts >>= λ w. writes_from reads (bit_or mask (2 ^ w.1)) (w.0 + 1) (rest_of ts)) (Ok (mask, ts))
unfolding writes_from is_number_at
writes_from_is reads mask least [] = refl
writes_from_is reads mask least (t ∷ ts) = refl

rest_shorter : (ts : List Lexeme) → 0 < length ts → length (rest_of ts) < length ts
rest_shorter [] some = some
rest_shorter (t ∷ ts) some = omega arith

read_stands : (count least o : ℕ) (ts : List Lexeme) → read_at count least ts ≡ Ok o → 0 < length ts
unfolding read_at object_number_at number_at
read_stands count least o [] h = absurd cc
read_stands count least o (t ∷ ts) h = omega arith

-- one more read
pub reads_shorter : (count least o : ℕ) (ts : List Lexeme) → read_at count least ts ≡ Ok o → length (rest_of ts) < length ts
reads_shorter count least o ts h = rest_shorter ts (read_stands count least o ts h)

number_stands : (ts : List Lexeme) → is_number_at ts ≡ true → 0 < length ts
unfolding is_number_at
number_stands [] h = absurd cc
number_stands (t ∷ ts) h = omega arith

-- one more write
pub writes_shorter : (ts : List Lexeme) → is_number_at ts ≡ true → length (rest_of ts) < length ts
writes_shorter ts h = rest_shorter ts (number_stands ts h)

pub writes_turn : (reads : List ObjectId) (mask least o k : ℕ) (ts : List Lexeme) (total : Result (ℕ × List Lexeme) TextFault) → is_number_at ts ≡ true → write_at reads least ts ≡ Ok (o, k) → k < 16
    → writes_from reads mask least ts ≡ total → writes_from reads (bit_or mask (1 * 2 ^ k % 65536)) (o + 1) (rest_of ts) ≡ total
writes_turn reads mask least o k ts total here write low told =
    let bit : 1 * 2 ^ k % 65536 ≡ 2 ^ k = (one_shifted k 65535 refl low).0 in
    let one : writes_from reads mask least ts ≡ writes_from reads (bit_or mask (2 ^ k)) (o + 1) (rest_of ts) = writes_from_is reads mask least ts ∙ rw (here, write) refl in
    rw bit (sym one ∙ told)
