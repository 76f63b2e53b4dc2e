-- What a reader of lines takes from the bytes that stand ahead.
use Rattle.std.specs.Prelude.{◌≡◌, ◌≤◌, ◌+◌, ℕ, List, ◌∷◌, ◌++◌, length}
use Rattle.mc_app.specs.Lines.{lines_of, line_max, NoFeed}

-- the next line, where this many bytes of the script were taken before and after
pub record TakesLine (line : List ℕ) (given given_after : ℕ) (ahead rest : List ℕ) : Type 0 where
  pub taken : List ℕ
  pub bytes : ahead ≡ taken ++ rest
  pub lines : lines_of ahead ≡ line ∷ lines_of rest
  pub within : length line ≤ line_max
  pub counted : given_after ≡ given + length taken

-- the first bytes of a line whose end was not seen
pub record TakesPart (ahead rest : List ℕ) : Type 0 where
  pub part : List ℕ
  pub split : ahead ≡ part ++ rest
  pub no_feed : NoFeed part

-- the bytes up to the line feed, which is taken too
pub record EndsLine (before after ahead rest : List ℕ) : Type 0 where
  pub piece : List ℕ
  pub split : ahead ≡ piece ++ 10 ∷ rest
  pub no_feed : NoFeed piece
  pub line : after ≡ before ++ piece
