-- The box-drawing characters with their arms, as Unicode names them: U+2500 to U+257F, but the three diagonals, which have none.
-- A dash counts as its weight, an arc as two light arms.
use Rattle.std.specs.Prelude.{ℕ, Option, None, Some, List, [], ◌∷◌}
use Rattle.tabled_boxes.specs.declared.arms.Weight.{Weight}
use Rattle.tabled_boxes.specs.declared.arms.Weight.TheVariants.{Light, Heavy, Double}
use Rattle.tabled_boxes.specs.declared.arms.Arms.{Arms}

-- a character with its arms
pub record Drawn : Type 0 where
  pub character : ℕ
  pub arms : Arms

abbrev pub none : Option Weight
none = None

abbrev pub light : Option Weight
light = Some Light

abbrev pub heavy : Option Weight
heavy = Some Heavy

abbrev pub double : Option Weight
double = Some Double

abbrev pub drawn : ℕ → (up down left right : Option Weight) → Drawn
drawn character up down left right = record { character = character; arms = record { up = up; down = down; left = left; right = right } }

-- up, down, left, right
unfoldable pub table : List Drawn
table =
    drawn 0x2500 none none light light ∷  -- ─  light horizontal
    drawn 0x2501 none none heavy heavy ∷  -- ━  heavy horizontal
    drawn 0x2502 light light none none ∷  -- │  light vertical
    drawn 0x2503 heavy heavy none none ∷  -- ┃  heavy vertical
    drawn 0x2504 none none light light ∷  -- ┄  light triple dash horizontal
    drawn 0x2505 none none heavy heavy ∷  -- ┅  heavy triple dash horizontal
    drawn 0x2506 light light none none ∷  -- ┆  light triple dash vertical
    drawn 0x2507 heavy heavy none none ∷  -- ┇  heavy triple dash vertical
    drawn 0x2508 none none light light ∷  -- ┈  light quadruple dash horizontal
    drawn 0x2509 none none heavy heavy ∷  -- ┉  heavy quadruple dash horizontal
    drawn 0x250A light light none none ∷  -- ┊  light quadruple dash vertical
    drawn 0x250B heavy heavy none none ∷  -- ┋  heavy quadruple dash vertical
    drawn 0x250C none light none light ∷  -- ┌  light down and right
    drawn 0x250D none light none heavy ∷  -- ┍  down light and right heavy
    drawn 0x250E none heavy none light ∷  -- ┎  down heavy and right light
    drawn 0x250F none heavy none heavy ∷  -- ┏  heavy down and right
    drawn 0x2510 none light light none ∷  -- ┐  light down and left
    drawn 0x2511 none light heavy none ∷  -- ┑  down light and left heavy
    drawn 0x2512 none heavy light none ∷  -- ┒  down heavy and left light
    drawn 0x2513 none heavy heavy none ∷  -- ┓  heavy down and left
    drawn 0x2514 light none none light ∷  -- └  light up and right
    drawn 0x2515 light none none heavy ∷  -- ┕  up light and right heavy
    drawn 0x2516 heavy none none light ∷  -- ┖  up heavy and right light
    drawn 0x2517 heavy none none heavy ∷  -- ┗  heavy up and right
    drawn 0x2518 light none light none ∷  -- ┘  light up and left
    drawn 0x2519 light none heavy none ∷  -- ┙  up light and left heavy
    drawn 0x251A heavy none light none ∷  -- ┚  up heavy and left light
    drawn 0x251B heavy none heavy none ∷  -- ┛  heavy up and left
    drawn 0x251C light light none light ∷  -- ├  light vertical and right
    drawn 0x251D light light none heavy ∷  -- ┝  vertical light and right heavy
    drawn 0x251E heavy light none light ∷  -- ┞  up heavy and right down light
    drawn 0x251F light heavy none light ∷  -- ┟  down heavy and right up light
    drawn 0x2520 heavy heavy none light ∷  -- ┠  vertical heavy and right light
    drawn 0x2521 heavy light none heavy ∷  -- ┡  down light and right up heavy
    drawn 0x2522 light heavy none heavy ∷  -- ┢  up light and right down heavy
    drawn 0x2523 heavy heavy none heavy ∷  -- ┣  heavy vertical and right
    drawn 0x2524 light light light none ∷  -- ┤  light vertical and left
    drawn 0x2525 light light heavy none ∷  -- ┥  vertical light and left heavy
    drawn 0x2526 heavy light light none ∷  -- ┦  up heavy and left down light
    drawn 0x2527 light heavy light none ∷  -- ┧  down heavy and left up light
    drawn 0x2528 heavy heavy light none ∷  -- ┨  vertical heavy and left light
    drawn 0x2529 heavy light heavy none ∷  -- ┩  down light and left up heavy
    drawn 0x252A light heavy heavy none ∷  -- ┪  up light and left down heavy
    drawn 0x252B heavy heavy heavy none ∷  -- ┫  heavy vertical and left
    drawn 0x252C none light light light ∷  -- ┬  light down and horizontal
    drawn 0x252D none light heavy light ∷  -- ┭  left heavy and right down light
    drawn 0x252E none light light heavy ∷  -- ┮  right heavy and left down light
    drawn 0x252F none light heavy heavy ∷  -- ┯  down light and horizontal heavy
    drawn 0x2530 none heavy light light ∷  -- ┰  down heavy and horizontal light
    drawn 0x2531 none heavy heavy light ∷  -- ┱  right light and left down heavy
    drawn 0x2532 none heavy light heavy ∷  -- ┲  left light and right down heavy
    drawn 0x2533 none heavy heavy heavy ∷  -- ┳  heavy down and horizontal
    drawn 0x2534 light none light light ∷  -- ┴  light up and horizontal
    drawn 0x2535 light none heavy light ∷  -- ┵  left heavy and right up light
    drawn 0x2536 light none light heavy ∷  -- ┶  right heavy and left up light
    drawn 0x2537 light none heavy heavy ∷  -- ┷  up light and horizontal heavy
    drawn 0x2538 heavy none light light ∷  -- ┸  up heavy and horizontal light
    drawn 0x2539 heavy none heavy light ∷  -- ┹  right light and left up heavy
    drawn 0x253A heavy none light heavy ∷  -- ┺  left light and right up heavy
    drawn 0x253B heavy none heavy heavy ∷  -- ┻  heavy up and horizontal
    drawn 0x253C light light light light ∷  -- ┼  light vertical and horizontal
    drawn 0x253D light light heavy light ∷  -- ┽  left heavy and right vertical light
    drawn 0x253E light light light heavy ∷  -- ┾  right heavy and left vertical light
    drawn 0x253F light light heavy heavy ∷  -- ┿  vertical light and horizontal heavy
    drawn 0x2540 heavy light light light ∷  -- ╀  up heavy and down horizontal light
    drawn 0x2541 light heavy light light ∷  -- ╁  down heavy and up horizontal light
    drawn 0x2542 heavy heavy light light ∷  -- ╂  vertical heavy and horizontal light
    drawn 0x2543 heavy light heavy light ∷  -- ╃  left up heavy and right down light
    drawn 0x2544 heavy light light heavy ∷  -- ╄  right up heavy and left down light
    drawn 0x2545 light heavy heavy light ∷  -- ╅  left down heavy and right up light
    drawn 0x2546 light heavy light heavy ∷  -- ╆  right down heavy and left up light
    drawn 0x2547 heavy light heavy heavy ∷  -- ╇  down light and up horizontal heavy
    drawn 0x2548 light heavy heavy heavy ∷  -- ╈  up light and down horizontal heavy
    drawn 0x2549 heavy heavy heavy light ∷  -- ╉  right light and left vertical heavy
    drawn 0x254A heavy heavy light heavy ∷  -- ╊  left light and right vertical heavy
    drawn 0x254B heavy heavy heavy heavy ∷  -- ╋  heavy vertical and horizontal
    drawn 0x254C none none light light ∷  -- ╌  light double dash horizontal
    drawn 0x254D none none heavy heavy ∷  -- ╍  heavy double dash horizontal
    drawn 0x254E light light none none ∷  -- ╎  light double dash vertical
    drawn 0x254F heavy heavy none none ∷  -- ╏  heavy double dash vertical
    drawn 0x2550 none none double double ∷  -- ═  double horizontal
    drawn 0x2551 double double none none ∷  -- ║  double vertical
    drawn 0x2552 none light none double ∷  -- ╒  down single and right double
    drawn 0x2553 none double none light ∷  -- ╓  down double and right single
    drawn 0x2554 none double none double ∷  -- ╔  double down and right
    drawn 0x2555 none light double none ∷  -- ╕  down single and left double
    drawn 0x2556 none double light none ∷  -- ╖  down double and left single
    drawn 0x2557 none double double none ∷  -- ╗  double down and left
    drawn 0x2558 light none none double ∷  -- ╘  up single and right double
    drawn 0x2559 double none none light ∷  -- ╙  up double and right single
    drawn 0x255A double none none double ∷  -- ╚  double up and right
    drawn 0x255B light none double none ∷  -- ╛  up single and left double
    drawn 0x255C double none light none ∷  -- ╜  up double and left single
    drawn 0x255D double none double none ∷  -- ╝  double up and left
    drawn 0x255E light light none double ∷  -- ╞  vertical single and right double
    drawn 0x255F double double none light ∷  -- ╟  vertical double and right single
    drawn 0x2560 double double none double ∷  -- ╠  double vertical and right
    drawn 0x2561 light light double none ∷  -- ╡  vertical single and left double
    drawn 0x2562 double double light none ∷  -- ╢  vertical double and left single
    drawn 0x2563 double double double none ∷  -- ╣  double vertical and left
    drawn 0x2564 none light double double ∷  -- ╤  down single and horizontal double
    drawn 0x2565 none double light light ∷  -- ╥  down double and horizontal single
    drawn 0x2566 none double double double ∷  -- ╦  double down and horizontal
    drawn 0x2567 light none double double ∷  -- ╧  up single and horizontal double
    drawn 0x2568 double none light light ∷  -- ╨  up double and horizontal single
    drawn 0x2569 double none double double ∷  -- ╩  double up and horizontal
    drawn 0x256A light light double double ∷  -- ╪  vertical single and horizontal double
    drawn 0x256B double double light light ∷  -- ╫  vertical double and horizontal single
    drawn 0x256C double double double double ∷  -- ╬  double vertical and horizontal
    drawn 0x256D none light none light ∷  -- ╭  light arc down and right
    drawn 0x256E none light light none ∷  -- ╮  light arc down and left
    drawn 0x256F light none light none ∷  -- ╯  light arc up and left
    drawn 0x2570 light none none light ∷  -- ╰  light arc up and right
    drawn 0x2574 none none light none ∷  -- ╴  light left
    drawn 0x2575 light none none none ∷  -- ╵  light up
    drawn 0x2576 none none none light ∷  -- ╶  light right
    drawn 0x2577 none light none none ∷  -- ╷  light down
    drawn 0x2578 none none heavy none ∷  -- ╸  heavy left
    drawn 0x2579 heavy none none none ∷  -- ╹  heavy up
    drawn 0x257A none none none heavy ∷  -- ╺  heavy right
    drawn 0x257B none heavy none none ∷  -- ╻  heavy down
    drawn 0x257C none none light heavy ∷  -- ╼  light left and heavy right
    drawn 0x257D light heavy none none ∷  -- ╽  light up and heavy down
    drawn 0x257E none none heavy light ∷  -- ╾  heavy left and light right
    drawn 0x257F heavy light none none ∷  -- ╿  heavy up and light down
    []
