pub mod SessionGenLaws
