-- WTF-8: 16-bit units as bytes, and bytes as 16-bit units. Assumes nothing.
use Rattle.std.specs.Prelude.{ℕ, ◌+◌, ◌-◌, ◌*◌, ◌/◌, ◌%◌, Bool, cond, ◌&&◌, List, [], ◌∷◌, ◌++◌, Some, None, Option, false, length, nat_le, nat_lt, slice_index}
use Rattle.std.proofs.Math.Utf8.{encodes}

-- the halves of a pair, and the code point that two of them are
abbrev pub high : ℕ → Bool
high u = nat_le 55296 u && nat_lt u 56320

abbrev pub low : ℕ → Bool
low u = nat_le 56320 u && nat_lt u 57344

abbrev pub join : ℕ → ℕ → ℕ
join h l = (h - 55296) * 1024 + (l - 56320) + 65536

-- the code points that units spell: a high half directly before a low half is one, any other unit stands for itself
abbrev pub points : List ℕ → List ℕ
points [] = []
points (u ∷ []) = u ∷ []
points (u ∷ (v ∷ us)) = cond (high u && low v) (join u v ∷ points us) (u ∷ points (v ∷ us))

-- WTF-8: each of these code points as UTF-8 writes it
abbrev pub wtf8 : List ℕ → List ℕ
wtf8 us = encodes (points us)

abbrev pub weight : List ℕ → ℕ
weight us = length (wtf8 us)

-- the other way: the units that begin at a byte, and none at a byte that goes on
abbrev pub two : ℕ → ℕ → ℕ
two a b = (a % 32) * 64 + b % 64

abbrev pub three : ℕ → ℕ → ℕ → ℕ
three a b c = (a % 16) * 4096 + (b % 64) * 64 + c % 64

abbrev pub four : ℕ → ℕ → ℕ → ℕ → ℕ
four a b c d = (a % 8) * 262144 + (b % 64) * 4096 + (c % 64) * 64 + d % 64

abbrev pub starts : ℕ → List ℕ → List ℕ
starts a bs =
    cond (nat_lt a 128) (a ∷ []) (cond (nat_lt a 192) [] (cond (nat_lt a 224) (two a (slice_index bs 0) ∷ []) (cond (nat_lt a 240) (three a (slice_index bs 0) (slice_index bs 1) ∷ [])
    ((55232 + four a (slice_index bs 0) (slice_index bs 1) (slice_index bs 2) / 1024) ∷ (56320 + four a (slice_index bs 0) (slice_index bs 1) (slice_index bs 2) % 1024) ∷ []))))

abbrev pub units : List ℕ → List ℕ
units [] = []
units (b ∷ bs) = starts b bs ++ units bs

-- the last unit where that is a high half
abbrev pub trail : List ℕ → Option ℕ
trail [] = None
trail (u ∷ []) = cond (high u) (Some u) None
trail (u ∷ (v ∷ us)) = trail (v ∷ us)

-- whether a unit completes a pair: half is the unit before it, where that is a high half
abbrev pub pairs : Option ℕ → ℕ → Bool
pairs None u = false
pairs (Some half) u = high half && low u

-- bytes that are the WTF-8 of their units are left as they are by this
abbrev pub recode : List ℕ → List ℕ
recode bs = wtf8 (units bs)

-- where the character begins that a unit completes, and which it is
abbrev pub from_of : Option ℕ → ℕ → ℕ → ℕ
from_of half used u = cond (pairs half u) (used - 3) used

abbrev pub code_of : Option ℕ → ℕ → ℕ
code_of None u = u
code_of (Some half) u = cond (high half && low u) (join half u) u
