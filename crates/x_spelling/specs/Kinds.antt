-- The kinds of tokens, by number. Definitions.
-- `true` and `false` are numbers, with their words.
use Rattle.std.specs.Prelude.{ℕ}

-- a constant: a decimal, a hexadecimal, a byte literal, true or false; the token's value is its word
abbrev pub number : ℕ
number = 1

-- a name; the token's value is its length in bytes
abbrev pub name : ℕ
name = 2

abbrev pub comment : ℕ
comment = 3

-- ( )
abbrev pub open_bracket : ℕ
open_bracket = 4

abbrev pub close_bracket : ℕ
close_bracket = 5

-- [ ]
abbrev pub open_subscript : ℕ
open_subscript = 6

abbrev pub close_subscript : ℕ
close_subscript = 7

-- { }
abbrev pub open_brace : ℕ
open_brace = 8

abbrev pub close_brace : ℕ
close_brace = 9

abbrev pub semicolon : ℕ
semicolon = 10

abbrev pub comma : ℕ
comma = 11

-- :=
abbrev pub becomes : ℕ
becomes = 12

-- reserved words
abbrev pub var : ℕ
var = 13

abbrev pub array : ℕ
array = 14

abbrev pub val : ℕ
val = 15

abbrev pub skip : ℕ
skip = 16

abbrev pub stop : ℕ
stop = 17

abbrev pub if : ℕ
if = 18

abbrev pub then : ℕ
then = 19

abbrev pub else : ℕ
else = 20

abbrev pub while : ℕ
while = 21

abbrev pub do_word : ℕ
do_word = 22

abbrev pub not : ℕ
not = 23

-- reserved words that no program continues with
abbrev pub proc : ℕ
proc = 24

abbrev pub func : ℕ
func = 25

abbrev pub valof : ℕ
valof = 26

abbrev pub return : ℕ
return = 27

abbrev pub is : ℕ
is = 28

-- operators: an operator's kind is this much more than its number in the syntax table
abbrev pub operator_base : ℕ
operator_base = 30

-- The syntax table: "Diadic from 1: + - * and or xor >> << = <> < <= > >="
abbrev pub plus : ℕ
plus = 31

abbrev pub minus : ℕ
minus = 32

abbrev pub times : ℕ
times = 33

abbrev pub and : ℕ
and = 34

abbrev pub or : ℕ
or = 35

abbrev pub xor : ℕ
xor = 36

abbrev pub shift_right : ℕ
shift_right = 37

abbrev pub shift_left : ℕ
shift_left = 38

abbrev pub equal : ℕ
equal = 39

abbrev pub unequal : ℕ
unequal = 40

abbrev pub less : ℕ
less = 41

abbrev pub at_most : ℕ
at_most = 42

abbrev pub greater : ℕ
greater = 43

abbrev pub at_least : ℕ
at_least = 44
