-- The limits of a scatter.
use Rattle.std.specs.Prelude.{ℕ, ◌^◌}

-- how many rows it takes at most
abbrev pub most_dealt : ℕ
most_dealt = 2 ^ 41

-- over how many packets a row goes at most: the longest one fills less than so many of the smallest blocks
abbrev pub most_packets : ℕ
most_packets = 97

-- how many packets may have been sent to a worker before it is made: one less at most
abbrev pub most_begun : ℕ
most_begun = 2 ^ 55
