-- Sizes that grow where what is shown over several of them asks for more.
use Rattle.std.specs.Prelude.{ℕ, ◌+◌, ◌-◌, ◌/◌, ◌%◌, ◌==◌, ◌&&◌, Bool, nat_lt, nat_le, if◌then◌else◌, List, filter, fold, map, length, slice_index, sum_by}
use Rattle.std.specs.List.{flat_map, range_with_len}
use Rattle.tabled_rooms.specs.declared.growing.Ask.{Ask}
use Rattle.tabled_rooms.specs.Rooms.{one_if}

-- whether something asks over some of so many sizes
abbrev pub is_over : ℕ → Ask → Bool
is_over count ask = nat_lt 0 ask.count && nat_le (ask.first + ask.count) count

-- how much room it has there: these sizes, and the lines between them that are drawn
abbrev pub size_part : List ℕ → (ℕ → Bool) → ℕ → ℕ → ℕ
size_part sizes drawn first n = slice_index sizes n + one_if (nat_lt first n && drawn n)

unfoldable pub room_over : List ℕ → (ℕ → Bool) → Ask → ℕ
room_over sizes drawn ask = sum_by (size_part sizes drawn ask.first) (range_with_len ask.first ask.count)

-- what size n gets of what is missing: as much as each of the others there, and the first of them what is left over too
abbrev pub share : Ask → ℕ → ℕ → ℕ
share ask missing n =
    if nat_le ask.first n && nat_lt n (ask.first + ask.count) then missing / ask.count + (if n == ask.first then missing % ask.count else 0) else 0

-- the sizes after something asked for that much over some of them
unfoldable pub grown_for : (ℕ → Bool) → List ℕ → Ask → List ℕ
grown_for drawn sizes ask =
    if is_over (length sizes) ask then map (λ n. slice_index sizes n + share ask (ask.size - room_over sizes drawn ask) n) (range_with_len 0 (length sizes)) else sizes

-- those of some that ask over so many sizes, and all of some: those over fewer sizes come first
abbrev pub over_count : List Ask → ℕ → List Ask
over_count asks count = filter (λ ask. ask.count == count) asks

abbrev pub by_count : ℕ → List Ask → List Ask
by_count limit asks = flat_map (over_count asks) (range_with_len 0 limit)

-- the sizes after all of these asked
unfoldable pub grown : (ℕ → Bool) → List ℕ → List Ask → List ℕ
grown drawn sizes asks = fold (grown_for drawn) sizes (by_count (length sizes + 1) asks)
