-- Laws of the field.
pub mod FieldLaws
