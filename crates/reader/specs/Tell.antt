-- R68. The numbers of an answer tell it from every other, and each promise of the reader allows one answer.
use Rattle.std.specs.Prelude.{ℕ, ◌≡◌, List, Result}
use Rattle.heartbeat.specs.declared.Heartbeat.{Heartbeat}
use Rattle.numbers.specs.declared.Refusal.{Refusal}
use Rattle.reader.specs.Numbers.{heartbeat_numbers, message_numbers, reading_numbers, entry_numbers}
use Rattle.reader.specs.Read.{ReadsMessage}
use Rattle.reader.specs.Entry.{ReadsEntry, GivesPart, TellsStart, PlacesPart}
use Rattle.reader.specs.Context.{GivesContext, PlacesContext}
use Rattle.reader.specs.declared.Message.{Message}
use Rattle.reader.specs.declared.Reading.{Reading}
use Rattle.reader.specs.declared.Entry.{Entry}
use Rattle.reader.specs.declared.Part.{Part}

-- Theorem. No two answers of the reader have the same numbers; two answers that a call's promise allows are equal.
pub record NumbersTell : Type 0 where
  pub heartbeats : (a b : Heartbeat) → heartbeat_numbers a ≡ heartbeat_numbers b → a ≡ b
  pub messages : (a b : Message) → message_numbers a ≡ message_numbers b → a ≡ b
  pub readings : (a b : Result Reading Refusal) → reading_numbers a ≡ reading_numbers b → a ≡ b
  pub entries : (a b : Result Entry Refusal) → entry_numbers a ≡ entry_numbers b → a ≡ b
  pub message : (s : List ℕ) (a b : Result Reading Refusal) → ReadsMessage s a → ReadsMessage s b → a ≡ b
  pub entry : (s : List ℕ) (i : ℕ) (a b : Result Entry Refusal) → ReadsEntry s i a → ReadsEntry s i b → a ≡ b
  pub part : (s : List ℕ) (i : ℕ) (a b : List ℕ) → GivesPart s i a → GivesPart s i b → a ≡ b
  pub start : (s : List ℕ) (i a b : ℕ) → TellsStart s i a → TellsStart s i b → a ≡ b
  pub place : (s : List ℕ) (i : ℕ) (a b : Part) → PlacesPart s i a → PlacesPart s i b → a ≡ b
  pub context : (s : List ℕ) (i : ℕ) (a b : List ℕ) → GivesContext s i a → GivesContext s i b → a ≡ b
  pub context_place_lem : (s : List ℕ) (i : ℕ) (a b : Part) → PlacesContext s i a → PlacesContext s i b → a ≡ b
