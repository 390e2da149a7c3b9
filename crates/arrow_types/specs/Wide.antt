-- A number of 256 bits and its two halves.
use Rattle.std.specs.Prelude.{ℕ, ◌-◌, ◌/◌, ◌%◌, ◌^◌, ℤ, pos, negsuc, ◌+ℤ◌, ◌*ℤ◌}

-- the number of a signed high half and an unsigned low half of 128 bits each
abbrev pub wide : ℤ → ℕ → ℤ
wide high low = (high *ℤ pos (2 ^ 128)) +ℤ pos low

-- the high half of a number: how often 2 ^ 128 goes into it, rounded down
abbrev pub high_half : ℤ → ℤ
high_half (pos n) = pos (n / 2 ^ 128)
high_half (negsuc n) = negsuc (n / 2 ^ 128)

-- the low half: what is left of it then
abbrev pub low_half : ℤ → ℕ
low_half (pos n) = n % 2 ^ 128
low_half (negsuc n) = 2 ^ 128 - 1 - n % 2 ^ 128
