use Rattle.std.proofs.Common.{◌≡◌, ◌++◌, drop, IsUtf8, sym, subst, rules}
use lib.Utf8.{encode}
use Rattle.std.proofs.lemmas.Str.{IsUtf8-drop}
use Rattle.source.proofs.Known.{utf8_from, char_at}
use Rattle.source.proofs.cursor.Cursor.peek_char.Goals as goal

pub from_utf8_unchecked-rest-requires : goal.from_utf8_unchecked-rest-requires
from_utf8_unchecked-rest-requires c =
    let s = c.args.self.now in
    subst (λ r. IsUtf8 r) (sym c.rest.ensures) (IsUtf8-drop s.bytes.now s.place.at (utf8_from s.bytes.now s.well) s.boundary)

pub returns : goal.returns
returns c =
    let s = c.args.self.now in
    let e : drop s.place.at s.bytes.now ≡ encode c.in_ok-c.c ++ c.next.new.self.rest.now = search rules in
    char_at s.bytes.now _ s.place.at c.in_ok-c.c c.len_utf8.result s.well s.boundary c.len_utf8.ensures.value e
