-- What is drawn: a list of shapes, each of them one element of the picture with its text, and what stands at its
-- beginning.
use Rattle.std.specs.Prelude.{ℕ, zero, suc, ◌*◌, ◌/◌, List, [], ◌++◌, codes, decimal, length, if◌then◌else◌, nat_lt}

-- the text of one element: a path, a text or a rectangle
abbrev pub Shape : Type 0
Shape = List ℕ

-- the shapes of the places from 0 up to n
abbrev pub shapes_up_to : ℕ → (ℕ → List Shape) → List Shape
shapes_up_to zero shapes = []
shapes_up_to (suc n) shapes = shapes_up_to n shapes ++ shapes n

-- a word, and a number right after it
abbrev pub with_number : List ℕ → ℕ → List ℕ
with_number word n = word ++ decimal n

-- a path of some kind in a client's colour, which begins at a point; what it is goes on from there
abbrev pub path_start : (word : List ℕ) (client x y : ℕ) → List ℕ
path_start word client x y =
    codes "<path class='" ++ word ++ with_number (codes " c") client ++ with_number (codes "' d='M") x
    ++ with_number (codes ",") y

-- its end, with what is said where a pointer rests on it
abbrev pub path_end : List ℕ → List ℕ
path_end words = codes "'><title>" ++ words ++ codes "</title></path>\n"

-- a text that begins at a point
abbrev pub text_start : (x y : ℕ) → List ℕ
text_start x y = with_number (codes "<text x='") x ++ with_number (codes "' y='") y ++ codes "'>"

abbrev pub text_at : (x y : ℕ) → List ℕ → Shape
text_at x y words = text_start x y ++ words ++ codes "</text>\n"

-- a text that would be wider than its place is written smaller: a character is reckoned as 7 pixels, and as 5 eighths
-- of the size of its letters where that is said
abbrev pub squeezed : (width characters : ℕ) → List ℕ
squeezed width characters =
    if nat_lt (width / 7) characters
    then with_number (codes "' style='font-size:") (width * 8 / 5 / characters) ++ codes "px" else []

abbrev pub fitted_text : (x y width : ℕ) → List ℕ → Shape
fitted_text x y width words =
    with_number (codes "<text x='") x ++ with_number (codes "' y='") y ++ squeezed width (length words) ++ codes "'>"
    ++ words ++ codes "</text>\n"
