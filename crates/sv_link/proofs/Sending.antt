-- How pieces that were sent one after the other join.
use Rattle.std.proofs.Common.{◌≡◌, ℕ, ◌+◌, ◌-◌, List, length, take, drop, append_assoc}
use Rattle.std.proofs.Math.Seq.{take-add}
use Rattle.std.proofs.lemmas.List.{take_rest}
use Rattle.sv_link.specs.Ends.{Told, sending}

-- the front of what was left continues what was sent
pub sending-more : (old mid new : Told) (bytes : List ℕ) (i n : ℕ)
    → mid ≡ sending old (take i bytes) → new ≡ sending mid (take n (take (length bytes - i) (drop i bytes))) → new ≡ sending old (take (i + n) bytes)
sending-more old mid new bytes i n first second =
    rw take-add (rw (first, append_assoc, take_rest) at second)
