-- Lines and numbers, worked out.
use Rattle.std.specs.Prelude.{Some, None}
use mathlib.Core.Path.{◌≡◌, refl}
use mathlib.Core.Bool.{true, false}
use mathlib.Core.List.{[], ◌∷◌}
use Rattle.text.specs.Ascii.{bytes}
use Rattle.text.specs.Putting.{place_after_all, put_all, places, decimal_of, hex_of}
use Rattle.text.specs.Spans.{run_length, word_at, same_bytes, is_text, all_spaces, is_passed_over}
use Rattle.text.specs.Numerals.{digit_of, all_digits, value_after, decimal_in, hex_in}
use Rattle.text.specs.HexBytes.{pairs, unhexed_answer, unhexed_bytes}

-- the last byte finds no room
pub cut_short : put_all (bytes "....") 2 (bytes "abc") ≡ bytes "..ab"
unfolding put_all
cut_short = refl

pub cut-short-place : place_after_all 4 2 (bytes "abc") ≡ 4
unfolding place_after_all
cut-short-place = refl

pub zero-decimal : decimal_of 0 ≡ bytes "0"
unfolding decimal_of places
zero-decimal = refl

pub largest-decimal : decimal_of 0xffff_ffff_ffff_ffff ≡ bytes "18446744073709551615"
unfolding decimal_of places
largest-decimal = refl

pub padded-hex : hex_of 0x2f 4 ≡ bytes "002f"
unfolding hex_of places
padded-hex = refl

pub wider-than-asked : hex_of 0x12345 2 ≡ bytes "12345"
unfolding hex_of places
wider-than-asked = refl

pub second_word : word_at (bytes "set  key 7") 3 ≡ record { from = 5; to = 8 }
unfolding run_length
second_word = refl

pub no-word-left : word_at (bytes "set  ") 3 ≡ record { from = 5; to = 5 }
unfolding run_length
no-word-left = refl

pub word-is : is_text (bytes "set key") (record { from = 4; to = 7 }) (bytes "key") ≡ true
unfolding same_bytes
word-is = refl

pub remark : is_passed_over (bytes "# key") ≡ true
unfolding all_spaces
remark = refl

pub tab-is-no-space : is_passed_over (9 ∷ []) ≡ false
unfolding all_spaces
tab-is-no-space = refl

pub one-too-large : decimal_in (bytes "18446744073709551616") ≡ None
unfolding decimal_in all_digits value_after digit_of
one-too-large = refl

pub zeros-in-front : decimal_in (bytes "000000000000000000000042") ≡ Some 42
unfolding decimal_in all_digits value_after digit_of
zeros-in-front = refl

pub no_sign : decimal_in (bytes "+1") ≡ None
unfolding decimal_in all_digits value_after digit_of
no_sign = refl

pub either-case : hex_in 8 (bytes "dEAd") ≡ Some 0xdead
unfolding hex_in all_digits value_after digit_of
either-case = refl

pub unhexed : unhexed_bytes (bytes "4b6C") (bytes "....") ≡ bytes "Kl.."
unfolding unhexed_bytes pairs all_digits digit_of
unhexed = refl

pub dash-is-none : unhexed_answer (bytes "-") [] ≡ Some 0
unfolding unhexed_answer pairs
dash-is-none = refl

pub odd-digits : unhexed_answer (bytes "4b6") (bytes "....") ≡ None
unfolding unhexed_answer pairs
odd-digits = refl
