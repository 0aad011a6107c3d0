-- No second answer fits: a number, or how many words there are, is an option, which the contract equals with what the definition says.
-- Assumes nothing.
use Rattle.std.specs.Prelude.{◌≡◌, List, ℕ, Bool, Option}
use mathlib.Core.Path.{sym, ◌∙◌}
use Rattle.command.specs.Arguments.{number_in}
use Rattle.command.specs.Files.{whole_words, noise_words}

pub number_in-unique : (text : List ℕ) (a b : Option ℕ) → a ≡ number_in text → b ≡ number_in text → a ≡ b
number_in-unique text a b p q = p ∙ sym q

pub whole_words-unique : (bytes : ℕ) (a b : Option ℕ) → a ≡ whole_words bytes → b ≡ whole_words bytes → a ≡ b
whole_words-unique bytes a b p q = p ∙ sym q

pub noise_words-unique : (bytes : ℕ) (more : Bool) (a b : Option ℕ) → a ≡ noise_words bytes more → b ≡ noise_words bytes more → a ≡ b
noise_words-unique bytes more a b p q = p ∙ sym q
