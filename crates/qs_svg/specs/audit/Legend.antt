-- What a picture says of its colours and signs, and how it looks in light and in dark.
use Rattle.std.specs.Prelude.{ℕ, ◌+◌, ◌*◌, List, [], ◌∷◌, ◌++◌, codes}
use Rattle.qs_program.specs.audit.Program.{ProgramShape, client_at}
use Rattle.qs_svg.specs.audit.Shapes.{Shape, path_start, text_at}

-- a client's colour and name
abbrev pub client_square : (c x y : ℕ) → Shape
client_square c x y = path_start (codes "symbol") c x y ++ codes "h8v8h-8z'/>\n"

abbrev pub client_shapes : ProgramShape → ℕ → List Shape
client_shapes p c =
    (client_square c (12 + 130 * c) 38 ∷ []) ++ (text_at (26 + 130 * c) 46 (client_at p c).name ∷ [])

-- the signs
abbrev pub sign_shapes : List Shape
sign_shapes =
    codes "<path class='sign' d='M12,60h8v8h-8z'/>\n"
    ∷ codes "<text x='26' y='68'>command</text>\n"
    ∷ codes "<path class='sign' d='M90,64a4,4 0 1 1 8,0a4,4 0 1 1-8,0z'/>\n"
    ∷ codes "<text x='104' y='68'>query</text>\n"
    ∷ codes "<text x='154' y='68'>&#9670; synchronisations sent</text>\n"
    ∷ codes "<text x='330' y='68'>&#9671; skipped</text>\n"
    ∷ codes "<path class='side' d='M430,58h-14v12h14z'/>\n"
    ∷ codes "<text x='436' y='68'>block that has ended</text>\n"
    ∷ codes "<path class='side' d='M606,58h-14v12h14'/>\n"
    ∷ codes "<text x='612' y='68'>open block</text>\n"
    ∷ codes "<path class='side' d='M12,82h8v8h-8zl8,8m0-8l-8,8'/>\n"
    ∷ codes "<text x='26' y='90'>command that was refused</text>\n"
    ∷ codes "<path class='side' d='M208,86a4,4 0 1 1 8,0a4,4 0 1 1-8,0z'/>\n"
    ∷ codes "<text x='222' y='90'>query of what is not there</text>\n"
    ∷ codes "<text x='416' y='90'>last in a frame: what the object held after it</text>\n" ∷ []

-- colours for a light ground and for paper, and others for a dark screen; the colour of each client can be told from
-- the others on both
abbrev pub style : List ℕ
style =
    codes "<style>\n"
    ++ codes "text{font:11px Menlo,Consolas,DejaVu Sans Mono,Liberation Mono,monospace;fill:#1c1c1c}.head{font-weight:bold}\n"
    ++ codes ".ground{fill:#fff}.sign{fill:#555}.side{fill:none;stroke:#555}\n"
    ++ codes ".c0{fill:#0060a8;stroke:#0060a8}.c1{fill:#b84a00;stroke:#b84a00}.c2{fill:#00795a;stroke:#00795a}.c3{fill:#a3317f;stroke:#a3317f}\n"
    ++ codes ".c4{fill:#6a4fc0;stroke:#6a4fc0}.c5{fill:#7d6400;stroke:#7d6400}.c6{fill:#c0262d;stroke:#c0262d}.c7{fill:#3f6470;stroke:#3f6470}\n"
    ++ codes "@media screen and (prefers-color-scheme:dark){\n"
    ++ codes "text{fill:#e8e8e8}\n"
    ++ codes ".ground{fill:#16181c}.sign{fill:#aaa}.side{stroke:#aaa}\n"
    ++ codes ".c0{fill:#5db4ff;stroke:#5db4ff}.c1{fill:#ff9f5a;stroke:#ff9f5a}.c2{fill:#3fd6a4;stroke:#3fd6a4}.c3{fill:#f08fd0;stroke:#f08fd0}\n"
    ++ codes ".c4{fill:#b6a2ff;stroke:#b6a2ff}.c5{fill:#e3c44a;stroke:#e3c44a}.c6{fill:#ff7f7f;stroke:#ff7f7f}.c7{fill:#a8c7d3;stroke:#a8c7d3}\n"
    ++ codes "}\n"
    ++ codes ".symbol{stroke:none}.void{fill:none}.stretch{fill-opacity:.14;stroke-width:1}.block{fill:none;stroke-width:4}\n"
    ++ codes "</style>\n"
