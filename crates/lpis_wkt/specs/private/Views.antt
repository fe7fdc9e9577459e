-- The tokens of the code, as the definitions see them.
use Rattle.std.specs.Prelude.{ℕ}
use Rattle.lpis_wkt.specs.declared.tokens.Placed.{Placed}
use Rattle.lpis_wkt.specs.declared.tokens.Token.{Token as CodeToken}
use Rattle.lpis_wkt.specs.declared.tokens.Token.TheVariants as code
use Rattle.lpis_wkt.specs.Tokens.{Token, Open, Close, Comma, Word}

abbrev pub token_of : CodeToken → Token
token_of code.Open = Open
token_of code.Close = Close
token_of code.Comma = Comma
token_of (code.Word w) = Word w.now

-- a token with its offset
abbrev pub token_placed : Placed → ℕ × Token
token_placed t = (t.offset, token_of t.token)
